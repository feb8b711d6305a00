use Rattle.std.proofs.Common.{◌≡◌, ℕ, ◌+◌, ◌<◌, ◌++◌, ◌∷◌, List, length, drop, get_or, ap, ◌∙◌, sym, arith}
use Rattle.std.proofs.lemmas.List.{drop_more}
use Rattle.hg_model.specs.declared.report.Report.{Report}
use Rattle.hg_wire.specs.Reports.{report_line}
use Rattle.hg_streams.specs.Texts.{line_text, reports_text}
use Rattle.hg_streams.specs.Holding.{HoldsNext}
use Rattle.hg_streams.proofs.Printed.{always_err, front_due, holds_next}
use Rattle.hg_commands.proofs.listing.print_kept.Goals as goal

next_report : (reports : List Report) (index k : ℕ) (r : Report) → index < length reports → r ≡ get_or reports index r
    → reports_text k (drop index reports) ≡ line_text (report_line k r) ++ reports_text (k + 1) (drop (index + 1) reports)
next_report reports index k r within is =
    ap (λ xs. reports_text k xs) (drop_more reports index r within ∙ ap (λ x. x ∷ drop (index + 1) reports) (sym is))

holds : (reports : List Report) (index k : ℕ) (r : Report) (old new : List ℕ) → index < length reports → r ≡ get_or reports index r → new ≡ old ++ line_text (report_line k r)
    → HoldsNext old new (reports_text k (drop index reports)) (reports_text (k + 1) (drop (index + 1) reports))
holds reports index k r old new within is held =
    holds_next old new (reports_text k (drop index reports)) (line_text (report_line k r)) (reports_text (k + 1) (drop (index + 1) reports)) held (next_report reports index k r within is)

pub returns-in_err-hold_report-clause-front : goal.returns-in_err-hold_report-clause-front
returns-in_err-hold_report-clause-front g c first rest goal p =
    always_err _ (front_due first c.loop-report.output.calls c.loop-report.held.items (reports_text (c.loop-report.before + 1) (drop c.loop-report.report-index c.args.reports.now) ++ rest) goal
    (c.loop-report.invariant.due first rest goal p))

pub returns-in_err-write_if_large-clause-front : goal.returns-in_err-write_if_large-clause-front
returns-in_err-write_if_large-clause-front g c first rest goal p =
    let reports = c.args.reports.now in
    let before = c.loop-report.before in
    let index = c.loop-report.report-index in
    always_err _ (c.in_err-write_if_large.ensures.front first (reports_text (before + 1 + 1) (drop (index + 1) reports) ++ rest) goal
    (holds reports index (before + 1) c.report-item.result c.loop-report.held.items c.hold_report.new.held.items
    c.loop-report-test.true c.report-item.is c.in_ok-hold_report.ensures.ok first c.loop-report.output.calls rest goal
    (c.loop-report.invariant.due first rest goal p)))

pub loop-report-preserved : goal.loop-report-preserved
loop-report-preserved g c =
    let reports = c.args.reports.now in
    let before = c.loop-report.before in
    let index = c.loop-report.report-index in
    let r = c.report-item.result in
    record {
      due = λ first rest goal p. c.in_ok-write_if_large.ensures.printed first (reports_text (before + 1 + 1) (drop (index + 1) reports) ++ rest) goal
          (holds_next c.loop-report.held.items c.hold_report.new.held.items (reports_text (before + 1) (drop index reports)) (line_text (report_line (before + 1) r)) (reports_text (before + 1 + 1) (drop (index + 1) reports))
          c.in_ok-hold_report.ensures.ok (next_report reports index (before + 1) r c.loop-report-test.true c.report-item.is)
          first c.loop-report.output.calls rest goal (c.loop-report.invariant.due first rest goal p));
      intact = omega (arith, c.in_ok-write_if_large.ensures.fault, c.loop-report.invariant.intact);
      count = ap (λ (n : ℕ). n + 1) c.loop-report.invariant.count;
    }
