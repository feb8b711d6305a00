-- Definition: part of what `check` promises. The laws of the grammar, which empty public functions promise.
use Rattle.std.specs.Prelude.{◌≡◌, ℕ, ◌↔◌, List, Ok, Err, map}
use Rattle.hg_model.specs.declared.event.Event.{Event}
use Rattle.hg_wire.specs.declared.line.LineFault.{LineFault}
use Rattle.hg_wire.specs.Lines.{IsLine, HasFault, line_of}
use Rattle.hg_wire.specs.Streams.{at_start, between_lines, ended_from, numbered_on, readings, readings_from}

-- A line gives an event exactly where its bytes spell that event.
abbrev pub EventsAreSpelled : Type 0
EventsAreSpelled = (bytes : List ℕ) (event : Event) → (line_of bytes ≡ Ok event) ↔ IsLine bytes event

-- A line gives a fault exactly where that is its first fault.
abbrev pub FaultsAreFirst : Type 0
FaultsAreFirst = (bytes : List ℕ) (fault : LineFault) → (line_of bytes ≡ Err fault) ↔ HasFault bytes fault

-- The readings from the start of a stream on are those of the whole stream.
abbrev pub StreamsAreWhole : Type 0
StreamsAreWhole = (stream : List ℕ) → readings_from at_start stream ≡ readings stream

-- Bytes behind k lines have the same readings as at the start of a stream, with k added to each line number.
abbrev pub LinesAreNumberedOn : Type 0
LinesAreNumberedOn = (k : ℕ) (stream : List ℕ) → (readings_from (between_lines k) stream ≡ map (numbered_on k) (readings_from at_start stream))
    × (ended_from (between_lines k) stream ≡ map (numbered_on k) (ended_from at_start stream))
