use Rattle.hg_test_plain.proofs.reporting.+reports_from.Given as goal

-- proposed from what the function passes where it calls itself
abbrev pub decreases-reports_from : goal.decreases-reports_from
decreases-reports_from l = l.count
