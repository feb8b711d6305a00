use Rattle.hg_detect.specs.Memory.{IsWhole}
use Rattle.hg_test_detector.proofs.tests.shards.judge_whole.Given as goal

abbrev pub invariant-loop : goal.invariant-loop
invariant-loop l = IsWhole l.whole
