use Rattle.std.proofs.Common.{◌∙◌, ◌++◌, ap, subst, sym}
use Rattle.std.specs.List.{flat_map}
use Rattle.std.proofs.lemmas.List.{take_all}
use Rattle.hg_root.proofs.Appending.{one_more}
use Rattle.hg_root.proofs.piece.put_each.Goals as goal

pub put-requires : goal.put-requires
put-requires g c = subst g.T.Piece.fits (sym c.item-item.is) (c.requires c.loop-item.item-index c.item-item.result c.loop-item-test.true)

pub loop-item-preserved : goal.loop-item-preserved
loop-item-preserved g c =
    c.in_ok-put.ensures ∙ one_more g.T.Piece.text c.args.items.now c.loop-item.item-index c.item-item.result c.item-item.result c.args.out.now.items c.loop-item.out.items c.loop-item-test.true c.item-item.is c.loop-item.invariant

pub returns : goal.returns
returns g c = c.loop-item.invariant ∙ ap (λ items. c.args.out.now.items ++ flat_map g.T.Piece.text items) (take_all c.loop-item.item-index c.args.items.now c.loop-item-test.false)
