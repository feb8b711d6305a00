use Rattle.std.proofs.Common.{◌≡◌, ◌+◌, ◌++◌, ◌∙◌, ap, sym, subst, set, get_or, take, drop, arith}
use Rattle.std.specs.List.{remove}
use Rattle.std.proofs.lemmas.List.Edits.{get_or-remove_above, length-remove}
use Rattle.hg_model.proofs.Moving.{more_moved, not_moved}
use Rattle.hg_model.proofs.held.move_back.Goals as goal

pub loop-i-preserved : goal.loop-i-preserved
loop-i-preserved g c =
    let xs = c.args.items.now in
    let ys = remove xs c.args.place in
    let i = c.loop-i.i in
    let item = c.index-items-i.result in
    let short = length-remove xs c.args.place c.requires in
    let here : get_or c.loop-i.items (i + 1) item ≡ get_or xs (i + 1) item =
    ap (λ items. get_or items (i + 1) item) c.loop-i.invariant.moved ∙ not_moved xs ys i (i + 1) item (omega arith) (omega arith) (omega (arith, short)) in
    let moves : item ≡ get_or ys i item = c.index-items-i.is ∙ here ∙ sym (get_or-remove_above xs c.args.place item i (omega arith) c.requires) in
    record {
      begun = omega arith;
      within = omega arith;
      moved = rw c.loop-i.invariant.moved
          (subst (λ next. set (take i ys ++ drop i xs) i next ≡ take (i + 1) ys ++ drop (i + 1) xs) (sym moves) (more_moved xs ys i item (omega arith) (omega (arith, short))));
    }
