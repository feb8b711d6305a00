use Rattle.hg_detect.specs.Memory.{IsWhole}
use Rattle.hg_test_detector.proofs.tests.judges.judge_both_ways.Given as goal

abbrev pub invariant-loop-place : goal.invariant-loop-place
invariant-loop-place g l = IsWhole l.whole.it
