use Rattle.hg_detect.specs.Memory.{IsWhole}
use Rattle.hg_test_detector.proofs.tests.judges.stop_of_one.Given as goal

abbrev pub invariant-loop-place : goal.invariant-loop-place
invariant-loop-place l = IsWhole l.whole
