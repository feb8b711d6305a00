use Rattle.std.proofs.Common.{◌≡◌, ℕ, ◌+◌, ◌++◌, List, [], drop, map, codes, ap, sym, ◌∙◌, arith}
use Rattle.std.proofs.lemmas.List.{append-nil, drop_all, length-map}
use Rattle.std.proofs.lemmas.Result.{on_ok_weaker}
use Rattle.std.specs.Fmt.{decimal}
use Rattle.hg_cells.specs.declared.report.KeptReport.{KeptReport}
use Rattle.hg_detect.specs.Shown.{report_of}
use Rattle.hg_check.specs.Life.{race_text}
use Rattle.hg_check.proofs.Lines.{race_found, race_passed}
use Rattle.hg_check.proofs.explain.event_line.hold_race.Goals as goal

pub returns-then-kept-index-clause-ok : goal.returns-then-kept-index-clause-ok
returns-then-kept-index-clause-ok c =
    on_ok_weaker c.hold_number.result
    (λ e. e ∙ (ap (λ x. x ++ (codes " ; race " ++ decimal (c.loop-index.index + 1))) c.loop-index.invariant.held
    ∙ ap (λ x. c.args.held.now.items ++ x)
    (sym (race_found (c.loop-index.index + 1) c.args.word c.loop-index.index c.args.detector.now.sets.sets c.kept_reports-kept.result.now _ c.loop-index-test.true c.if-kept-index.true)
    ∙ (sym c.loop-index.invariant.race
    ∙ ap (λ (xs : List KeptReport). race_text (c.args.from + 1) c.args.word (drop c.args.from (map (report_of c.args.detector.now.sets.sets) xs))) c.kept_reports-kept.ensures.value))))
    c.hold_number.ensures.ok

pub loop-index-preserved : goal.loop-index-preserved
loop-index-preserved c = record {
  race = c.loop-index.invariant.race ∙ race_passed (c.loop-index.index + 1) c.args.word c.loop-index.index c.args.detector.now.sets.sets c.kept_reports-kept.result.now _ c.loop-index-test.true c.if-kept-index.false;
  held = c.loop-index.invariant.held;
}

no_race : (k w i : ℕ) (sets : List (List ℕ)) (kept : List KeptReport) → ◌≡◌ {A = _} (drop i (map (report_of sets) kept)) [] → race_text k w (drop i (map (report_of sets) kept)) ≡ []
no_race k w i sets kept is = ap (λ rs. race_text k w rs) is

pub returns-clause-ok : goal.returns-clause-ok
returns-clause-ok c =
    c.loop-index.invariant.held
    ∙ (sym (append-nil c.args.held.now.items)
    ∙ ap (λ x. c.args.held.now.items ++ x)
    (sym (no_race (c.loop-index.index + 1) c.args.word c.loop-index.index c.args.detector.now.sets.sets c.kept_reports-kept.result.now
    (drop_all c.loop-index.index (map (report_of c.args.detector.now.sets.sets) c.kept_reports-kept.result.now)
    (omega (arith, c.loop-index-test.false, length-map c.kept_reports-kept.result.now (report_of c.args.detector.now.sets.sets)))))
    ∙ (sym c.loop-index.invariant.race
    ∙ ap (λ (xs : List KeptReport). race_text (c.args.from + 1) c.args.word (drop c.args.from (map (report_of c.args.detector.now.sets.sets) xs))) c.kept_reports-kept.ensures.value)))
