use Rattle.hg_shards.specs.Sharding.{IsReady}
use Rattle.hg_test_detector.proofs.tests.shards.offer_part.Given as goal

abbrev pub invariant-loop-judged : goal.invariant-loop-judged
invariant-loop-judged g l = IsReady l.shard
