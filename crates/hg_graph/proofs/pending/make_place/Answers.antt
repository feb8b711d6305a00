use Rattle.hg_graph.proofs.Filing.{new_place}
use Rattle.hg_graph.proofs.pending.make_place.Goals as goal

pub returns-in-None-clause-place : goal.returns-in-None-clause-place
returns-in-None-clause-place c = new_place c.args.places.now.entries c.args.slots.now.items c.add_slot.new.slots.items c.add_slot.result c.requires c.add_slot.ensures.place
