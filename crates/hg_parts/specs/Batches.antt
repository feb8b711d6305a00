-- The lines of a batch, which are kept the newest first.
use Rattle.std.specs.Prelude.{◌≡◌, ℕ, ◌≤◌, List, [], ◌∷◌, ◌++◌, length, Ok}
use Rattle.hg_model.specs.declared.event.Event.{Event}
use Rattle.hg_wire.specs.declared.reader.Reading.{Reading}
use Rattle.hg_parts.specs.declared.line.EventLine.{EventLine}
use Rattle.hg_parts.specs.declared.runs.Run.{Run}
use Rattle.hg_parts.specs.Numbers.{number_at}

-- their events, the oldest first
abbrev pub events_in : List EventLine → List Event
events_in [] = []
events_in (l ∷ earlier) = events_in earlier ++ l.event ∷ []

-- what is read of the line of an event
abbrev pub reading_of : EventLine → Reading
reading_of l = record { line = l.line; event = Ok l.event }

-- what is read of them, the oldest first
abbrev pub readings_in : List EventLine → List Reading
readings_in [] = []
readings_in (l ∷ earlier) = readings_in earlier ++ reading_of l ∷ []

-- The runs tell the number of each line, and none is above the greatest.
abbrev pub AreNumbered : List Run → ℕ → List EventLine → Type 0
AreNumbered runs greatest [] = Unit {0}
AreNumbered runs greatest (l ∷ earlier) = (number_at runs (length earlier) ≡ l.line) × (l.line ≤ greatest) × AreNumbered runs greatest earlier
