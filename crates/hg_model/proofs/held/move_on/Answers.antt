use Rattle.std.proofs.Common.{◌≡◌, ◌∙◌, ap, sym, get_or, arith}
use Rattle.std.specs.List.{insert}
use Rattle.std.proofs.lemmas.List.{get_or_default}
use Rattle.std.proofs.lemmas.List.Edits.{get_or-insert_above, length-insert}
use Rattle.hg_model.proofs.Moving.{more_moved, not_moved}
use Rattle.hg_model.proofs.held.move_on.Goals as goal

pub loop-i-preserved : goal.loop-i-preserved
loop-i-preserved g c =
    let xs = c.args.items.now in
    let item = c.args.item in
    let ys = insert xs c.args.place item in
    let long = length-insert xs c.args.place item c.requires in
    let here : get_or c.loop-i.items c.loop-i.i c.index-items-i.result ≡ get_or xs c.loop-i.i c.index-items-i.result =
    ap (λ items. get_or items c.loop-i.i c.index-items-i.result) c.loop-i.invariant.moved ∙ not_moved xs ys c.loop-i.i c.loop-i.i c.index-items-i.result (omega arith) (omega arith) (omega (arith, long)) in
    record {
      begun = omega arith;
      moved = rw (c.loop-i.invariant.moved, c.loop-i.invariant.next) (more_moved xs ys c.loop-i.i item (omega arith) (omega (arith, long)));
      next = c.index-items-i.is ∙ here ∙ get_or_default xs c.loop-i.i c.index-items-i.result item (omega arith) ∙ sym (get_or-insert_above xs c.args.place item item c.loop-i.i (omega arith) c.requires);
    }
