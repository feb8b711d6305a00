use Rattle.std.proofs.Common.{length}
use Rattle.hg_test_detector.proofs.tests.merging.+is_before_all.Given as goal

abbrev pub decreases-is_before_all : goal.decreases-is_before_all
decreases-is_before_all l = length l.others.now
