use Rattle.std.proofs.Common.{arith}
use Rattle.hg_wire.proofs.EventLemmas.{event_line}
use Rattle.hg_wire.proofs.line.event_line_in_front.Goals as goal

pub returns : goal.returns
returns c = event_line c.args.bytes.now c.in_ok-event.event _ c.in_ok-used.used c.in_ok-event.ensures.event c.in_ok-used.ensures.ends (omega (arith, c.in_ok-event.ensures.near, c.in_ok-used.ensures.within))
