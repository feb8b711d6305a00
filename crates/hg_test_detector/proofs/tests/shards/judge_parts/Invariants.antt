use Rattle.std.specs.List.{All}
use Rattle.hg_shards.specs.Sharding.{IsReady}
use Rattle.hg_test_detector.proofs.tests.shards.judge_parts.Given as goal

abbrev pub invariant-loop-part : goal.invariant-loop-part
invariant-loop-part g l = All IsReady l.shards.items
