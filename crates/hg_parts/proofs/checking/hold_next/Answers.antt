use Rattle.std.proofs.Common.{ℕ, List, ◌++◌, sym, subst}
use Rattle.std.proofs.lemmas.Result.{err_from_is_err_and}
use Rattle.hg_streams.specs.Holding.{IsDue}
use Rattle.hg_streams.specs.Texts.{line_text}
use Rattle.hg_streams.proofs.Printed.{due_held, front_due}
use Rattle.hg_wire.specs.Reports.{report_line}
use Rattle.hg_parts.proofs.checking.hold_next.Goals as goal

pub returns-in_err-hold_report-clause-front : goal.returns-in_err-hold_report-clause-front
returns-in_err-hold_report-clause-front g c first rest goal p =
    let q = err_from_is_err_and c.from_residual.result c.from_residual.ensures.1 in
    rw q.1 (front_due first c.args.output.now.calls c.args.held.now.items (line_text (report_line c.args.k c.args.report.now) ++ rest) goal p)

pub returns-in_err-write_if_large-clause-front : goal.returns-in_err-write_if_large-clause-front
returns-in_err-write_if_large-clause-front g c first rest goal p =
    let q = err_from_is_err_and c.from_residual-in_err-write_if_large.result c.from_residual-in_err-write_if_large.ensures.1 in
    rw q.1 (c.in_err-write_if_large.ensures.front first rest goal
    (subst (λ (items : List ℕ). IsDue first c.args.output.now.calls items rest goal) (sym c.in_ok-hold_report.ensures.ok) (due_held first c.args.output.now.calls c.args.held.now.items (line_text (report_line c.args.k c.args.report.now)) rest goal p)))

pub returns-clause-printed : goal.returns-clause-printed
returns-clause-printed g c first rest goal p =
    c.in_ok-write_if_large.ensures.printed first rest goal
    (subst (λ (items : List ℕ). IsDue first c.args.output.now.calls items rest goal) (sym c.in_ok-hold_report.ensures.ok) (due_held first c.args.output.now.calls c.args.held.now.items (line_text (report_line c.args.k c.args.report.now)) rest goal p))
