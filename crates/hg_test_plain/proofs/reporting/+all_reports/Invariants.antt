use Rattle.std.proofs.Common.{length}
use Rattle.hg_test_plain.proofs.reporting.+all_reports.Given as goal

-- proposed from what the function passes where it calls itself
abbrev pub decreases-all_reports : goal.decreases-all_reports
decreases-all_reports l = length l.trace.now
