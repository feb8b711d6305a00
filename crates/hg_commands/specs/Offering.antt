-- The event of a line in its parts.
use Rattle.std.specs.Prelude.{ℕ, Ok}
use Rattle.hg_model.specs.declared.event.Event.{Event}
use Rattle.hg_model.specs.declared.event.Named.{Named}
use Rattle.hg_model.specs.Accessing.{access_event}
use Rattle.hg_model.specs.Holding.{hold_event}
use Rattle.hg_wire.specs.declared.reader.Reading.{Reading}
use Rattle.hg_commands.specs.declared.offering.EventParts.{EventParts}
use Rattle.hg_commands.specs.declared.offering.EventParts.TheVariants.{Access, Hold, Whole}

-- the event that has these parts
abbrev pub event_of : EventParts → Event
event_of (Access a write) = access_event write a
event_of (Hold h) = hold_event h
event_of (Whole e) = e

-- under the number that its source gave it
abbrev pub named_by : ℕ → ℕ → EventParts → Named
named_by source number parts = record { source = source; number = number; event = event_of parts }

-- what was read of a line with this event
abbrev pub reading_of : ℕ → EventParts → Reading
reading_of line parts = record { line = line; event = Ok (event_of parts) }
