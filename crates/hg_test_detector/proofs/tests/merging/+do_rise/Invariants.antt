use Rattle.std.proofs.Common.{length}
use Rattle.hg_test_detector.proofs.tests.merging.+do_rise.Given as goal

abbrev pub decreases-do_rise : goal.decreases-do_rise
decreases-do_rise l = length l.reports.now
