use Rattle.std.proofs.Common.{◌≡◌, ◌<◌, ◌∙◌, ◌++◌, ℕ, List, [], ◌∷◌, arith, get_or, length, take, ap, sym}
use Rattle.std.proofs.lemmas.List.{get_or_read}
use Rattle.hg_root.specs.declared.parts.PageSlot.{PageSlot}
use Rattle.hg_checkpoint.specs.Tables.{pages_of}
use Rattle.hg_checkpoint.proofs.Tables.{all_rows, row, row_more}
use Rattle.hg_checkpoint.proofs.rows.pages_in.Goals as goal

pub loop-i-preserved : goal.loop-i-preserved
loop-i-preserved c =
    let entries = c.args.table.now.entries in
    let inside : c.loop-i.i < length entries = omega (arith, c.loop-i-test.true, c.len-i-end.ensures.value) in
    let here : c.at-page.result ≡ get_or entries c.loop-i.i (0, 0) = get_or_read entries c.loop-i.i c.at-page.result inside c.at-page.ensures (0, 0) in
    c.in_ok-push.ensures.items ∙ ap (λ (l : List PageSlot). l ++ row c.at-page.result ∷ []) c.loop-i.invariant ∙ ap (λ (e : ℕ × ℕ). pages_of (take c.loop-i.i entries) ++ row e ∷ []) here ∙ sym (row_more entries c.loop-i.i (0, 0) inside)

pub returns : goal.returns
returns c = c.loop-i.invariant ∙ all_rows c.args.table.now.entries c.loop-i.i (omega (arith, c.loop-i-test.false, c.len-i-end.ensures.value))
