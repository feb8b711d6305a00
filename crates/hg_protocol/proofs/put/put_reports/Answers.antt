use Rattle.std.proofs.Common.{◌≡◌, ◌+◌, ◌++◌, ◌∷◌, ℕ, List, drop, ap, sym, ◌∙◌, append_assoc}
use Rattle.std.proofs.lemmas.List.{drop_more}
use Rattle.hg_model.specs.declared.report.Report.{Report}
use Rattle.hg_wire.specs.Reports.{report_line}
use Rattle.hg_protocol.specs.Framing.{framed}
use Rattle.hg_protocol.specs.Replies.{line_body}
use Rattle.hg_protocol.specs.Spelling.{report_frames}
use Rattle.hg_protocol.proofs.put.put_reports.Goals as goal

pub returns-in-Err-clause-err : goal.returns-in-Err-clause-err
returns-in-Err-clause-err c =
    let front = c.loop-report.invariant.front in
    (front.0, c.in-Err.ensures.err ∙ front.1)

pub loop-report-preserved : goal.loop-report-preserved
loop-report-preserved c =
    let front = c.loop-report.invariant.front in
    let i = c.loop-report.report-index in
    let reports = c.args.reports.now in
    let later = report_frames (i + 1 + 1) (drop (i + 1) reports) in
    let text = framed (line_body (report_line (i + 1) c.report-item.result)) in
    let count : c.loop-report.k + 1 ≡ i + 1 = ap (λ (n : ℕ). n + 1) c.loop-report.invariant.counted in
    let put : c.put_report.new.out.items ≡ c.loop-report.out.items ++ text =
    c.in-Ok.ensures.ok ∙ ap (λ (n : ℕ). c.loop-report.out.items ++ framed (line_body (report_line n c.report-item.result))) count in
    let step : report_frames (i + 1) (drop i reports) ≡ text ++ later =
    ap (λ (xs : List Report). report_frames (i + 1) xs) (drop_more reports i c.report-item.result c.loop-report-test.true ∙ ap (λ (x : Report). x ∷ drop (i + 1) reports) (sym c.report-item.is)) in
    record {
      counted = count;
      line = c.in-Ok.ensures.none;
      front = (
        front.0 ++ text,
        put ∙ ap (λ (xs : List ℕ). xs ++ text) front.1 ∙ append_assoc c.args.out.now.items front.0 text,
        append_assoc front.0 text later ∙ ap (λ (xs : List ℕ). front.0 ++ xs) (sym step) ∙ front.2,
      );
    }
