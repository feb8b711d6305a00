use Rattle.std.proofs.Common.{refl, false}
use Rattle.hg_cells.specs.declared.report.KeptReport.{KeptReport}
use Rattle.hg_root.specs.Lawful.{IsReport}
use Rattle.hg_root.proofs.Each.{each_all, each_more}
use Rattle.hg_root.proofs.rules.are_reports.Goals as goal

abbrev none : KeptReport
none = record { event = 0; word = 0; threads = 0; thread = 0; write = false }

pub loop-report-preserved : goal.loop-report-preserved
loop-report-preserved c = each_more (IsReport c.args.events c.args.sets.now.sets) c.args.reports.now c.loop-report.report-index none c.loop-report-test.true (c.is_report.ensures.0 c.if-not-is_report.false) c.loop-report.invariant

pub returns : goal.returns
returns c = (λ yes. each_all (IsReport c.args.events c.args.sets.now.sets) c.args.reports.now c.loop-report.report-index c.loop-report-test.false c.loop-report.invariant, λ all. refl)
