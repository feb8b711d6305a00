use Rattle.std.proofs.Common.{All, take}
use Rattle.hg_root.specs.Lawful.{IsReport}
use Rattle.hg_root.proofs.rules.are_reports.Given as goal

abbrev pub invariant-loop-report : goal.invariant-loop-report
invariant-loop-report l = All (IsReport l.events l.sets.sets) (take l.report-index l.reports)
