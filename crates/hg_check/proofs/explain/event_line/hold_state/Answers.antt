use Rattle.std.proofs.Common.{◌++◌, ℕ, ◌∙◌, ap, codes}
use Rattle.std.proofs.lemmas.Result.{on_ok_weaker}
use Rattle.std.specs.Fmt.{decimal}
use Rattle.hg_cells.specs.declared.cell.Cell.{Cell}
use Rattle.hg_cells.specs.Cells.{meaning}
use Rattle.hg_cells.specs.declared.paged.PagedWords.{PagedWords}
use Rattle.hg_cells.specs.Paged.{cell_in}
use Rattle.hg_check.specs.Life.{state_text}
use Rattle.hg_check.proofs.explain.event_line.hold_state.Goals as goal

pub returns-in-Exclusive-clause-ok : goal.returns-in-Exclusive-clause-ok
returns-in-Exclusive-clause-ok c =
    on_ok_weaker c.hold_number.result
    (λ e. e ∙ (ap (λ (n : ℕ). c.args.held.now.items ++ (codes " state exclusive segment " ++ decimal n)) c.from.ensures
    ∙ ap (λ (x : Cell). c.args.held.now.items ++ state_text (meaning c.args.detector.now.sets.sets x)) (c.in-Exclusive.ensures ∙ ap (λ (v : PagedWords). cell_in v c.args.word) c.words.ensures)))
    c.hold_number.ensures.ok

pub returns-in-SharedRead-clause-ok : goal.returns-in-SharedRead-clause-ok
returns-in-SharedRead-clause-ok c =
    on_ok_weaker c.hold_sets.result
    (λ e. e ∙ ap (λ (x : Cell). c.args.held.now.items ++ state_text (meaning c.args.detector.now.sets.sets x)) (c.in-SharedRead.ensures ∙ ap (λ (v : PagedWords). cell_in v c.args.word) c.words.ensures))
    c.hold_sets.ensures.ok

pub returns-in-SharedModified-clause-ok : goal.returns-in-SharedModified-clause-ok
returns-in-SharedModified-clause-ok c =
    on_ok_weaker c.hold_sets-in-SharedModified.result
    (λ e. e ∙ ap (λ (x : Cell). c.args.held.now.items ++ state_text (meaning c.args.detector.now.sets.sets x)) (c.in-SharedModified.ensures ∙ ap (λ (v : PagedWords). cell_in v c.args.word) c.words.ensures))
    c.hold_sets-in-SharedModified.ensures.ok
