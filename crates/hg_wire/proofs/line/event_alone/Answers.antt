use Rattle.hg_wire.proofs.EventLemmas.{event_ends}
use Rattle.hg_wire.proofs.line.event_alone.Goals as goal

pub returns : goal.returns
returns c = event_ends c.args.line.now c.copy_from_slice.new.self _ c.in_ok-event.end c.in_ok-event.event c.copy_from_slice.ensures.after c.if-end-line.false c.in_ok-event.ensures.event
