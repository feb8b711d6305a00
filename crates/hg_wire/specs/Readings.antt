-- Definition: part of what `check` promises. The lines of a trace text, and what is read of them.
use Rattle.std.specs.Prelude.{ℕ, ◌+◌, Bool, true, false, not, ◌&&◌, ◌==◌, nat_lt, List, [], ◌∷◌, length, map, filter, if◌then◌else◌}
use Rattle.std.specs.List.{slice_split, enumerate_from}
use Rattle.std.specs.Str.Lines.{strip_carriage_return}
use Rattle.hg_wire.specs.declared.reader.Reading.{Reading}
use Rattle.hg_wire.specs.Lines.{line_of}

-- The parts between line feeds that are lines. The last part is a line where the stream is over and the part is not empty.
abbrev pub lines_among : Bool → List (List ℕ) → List (List ℕ)
lines_among over [] = []
lines_among over (part ∷ []) = if over && nat_lt 0 (length part) then part ∷ [] else []
lines_among over (part ∷ next ∷ parts) = part ∷ lines_among over (next ∷ parts)

-- The lines of a stream that is over, or may go on. Each comes without its line feed and without one carriage return before that.
abbrev pub lines_when : Bool → List ℕ → List (List ℕ)
lines_when over stream = map strip_carriage_return (lines_among over (slice_split (λ b. b == 10) stream))

-- The lines of a whole stream.
abbrev pub lines_of : List ℕ → List (List ℕ)
lines_of stream = lines_when true stream

-- an empty line, and a line that begins with `#`, is skipped
abbrev pub is_skipped : List ℕ → Bool
is_skipped [] = true
is_skipped (b ∷ line) = b == 35

abbrev pub reading_of : ℕ × List ℕ → Reading
reading_of numbered = record { line = numbered.0; event = line_of numbered.1 }

-- The readings of some lines, each with its number.
abbrev pub readings_in : List (ℕ × List ℕ) → List Reading
readings_in lines = map reading_of (filter (λ numbered. not (is_skipped numbered.1)) lines)

-- The readings of a stream behind n lines, which is over or may go on. All its lines are counted, from n + 1 on.
abbrev pub readings_when : Bool → ℕ → List ℕ → List Reading
readings_when over n stream = readings_in (enumerate_from (n + 1) (lines_when over stream))

-- The readings of the rest of a stream, behind n lines.
abbrev pub readings_after : ℕ → List ℕ → List Reading
readings_after n stream = readings_when true n stream

-- The readings of a whole stream.
abbrev pub readings : List ℕ → List Reading
readings stream = readings_after 0 stream

-- The readings of a stream that may go on. Only lines that a line feed ends are read.
abbrev pub ended_readings : List ℕ → List Reading
ended_readings stream = readings_when false 0 stream
