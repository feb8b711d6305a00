use Rattle.std.proofs.Common.{ℕ, List, All, ap, subst}
use Rattle.hg_root.specs.Lawful.{IsReport}
use Rattle.hg_root.proofs.Refusing.{passed_on, refuted}
use Rattle.hg_root.proofs.root.sets_with.Goals as goal

pub returns-in_err-table-clause-damaged : goal.returns-in_err-table-clause-damaged
returns-in_err-table-clause-damaged c damaged sets all = c.in_err-table.ensures.damaged (passed_on c.from_residual.result c.in_err-table.field-0.0 c.from_residual.ensures.1 damaged) sets

pub returns-then-not-are_reports-clause-damaged : goal.returns-then-not-are_reports-clause-damaged
returns-then-not-are_reports-clause-damaged c _ sets =
    subst (λ (s : List (List ℕ)). ¬ All (IsReport c.args.events s) c.args.reports.now) (ap (λ t. t.sets) c.in_ok-table.ensures.table) (refuted c.if-not-are_reports.true c.are_reports.ensures.1)

pub returns-clause-reports : goal.returns-clause-reports
returns-clause-reports c = subst (λ (s : List (List ℕ)). All (IsReport c.args.events s) c.args.reports.now) (ap (λ t. t.sets) c.in_ok-table.ensures.table) (c.are_reports.ensures.0 c.if-not-are_reports.false)
