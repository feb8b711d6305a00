use Rattle.std.proofs.Common.{◌≡◌}
use Rattle.hg_detect.specs.Memory.{IsWhole}
use Rattle.hg_shards.specs.Judging.{parts_of}
use Rattle.hg_test_detector.proofs.tests.routes.judge_in_lists.Given as goal

abbrev pub invariant-loop-place : goal.invariant-loop-place
invariant-loop-place g l = IsWhole l.whole.it × (parts_of l.judge.it ≡ l.parts)
