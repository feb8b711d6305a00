use Rattle.std.proofs.Common.{None, subst}
use Rattle.hg_model.specs.Contents.{Content}
use Rattle.hg_store.specs.Store.{IsFresh}
use Rattle.hg_store.proofs.Making.{new_based, new_basis}
use Rattle.hg_store.proofs.create.on_closed_roots.Goals as goal

pub made-requires-clause-stands : goal.made-requires-clause-stands
made-requires-clause-stands g c honest =
    let stand = c.new-checkpointer.ensures.stands None None c.requires.stands in
    (new_basis, new_based g.D.Disk c.args.journals c.args.detector c.new-checkpointer.result c.requires.journals c.requires.content stand c.new-checkpointer.ensures.number, c.requires.ready honest)

pub returns-clause-fresh : goal.returns-clause-fresh
returns-clause-fresh g c =
    let stand = c.new-checkpointer.ensures.stands None None c.requires.stands in
    let based = new_based g.D.Disk c.args.journals c.args.detector c.new-checkpointer.result c.requires.journals c.requires.content stand c.new-checkpointer.ensures.number in
    subst (λ (s : Content). IsFresh g.D.Disk c.made.result s) c.requires.content (c.made.ensures.fresh new_basis based)
