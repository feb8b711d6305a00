use Rattle.hg_wire.proofs.verb.sized_event.Goals as goal

pub returns-in-Access : goal.returns-in-Access
returns-in-Access c = rw c.in-Access.is c.access_event.ensures

pub returns-in-Block : goal.returns-in-Block
returns-in-Block c = rw c.in-Block.is c.block_event.ensures
