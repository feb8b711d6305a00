-- For proofs alone: the lines of reads and writes, taken in their parts.
use Rattle.std.specs.Prelude.{ℕ, List, Ok, if◌then◌else◌}
use Rattle.hg_model.specs.declared.event.Event.{Event}
use Rattle.hg_model.specs.declared.event.Event.TheVariants.{Read, Write}
use Rattle.hg_wire.specs.declared.line.AccessLine.{AccessLine}
use Rattle.hg_wire.specs.Streams.{GivesReading, LinesRead}

-- the event of such a line
abbrev pub event_of : AccessLine → Event
event_of found = if found.is_write then Write found.access else Read found.access

-- From one state to another, the reader gave the line of this access.
abbrev pub GivesAccess : LinesRead → LinesRead → List ℕ → AccessLine → Type 0
GivesAccess old new piece found = GivesReading old new piece (record { line = new.lines; event = Ok (event_of found) }) found.used
