-- For proofs alone: how far a reader has come in a stream, and what each call of it takes.
use Rattle.std.specs.Prelude.{◌≡◌, ◌⊎◌, ℕ, ◌+◌, ◌<◌, ◌≤◌, Bool, true, false, nat_lt, List, [], ◌∷◌, ◌++◌, length, take, drop, map, Some, None, if◌then◌else◌}
use Rattle.std.specs.List.{enumerate_from}
use Rattle.std.specs.Str.Lines.{strip_carriage_return}
use Rattle.memchr.specs.Find.{IsLastByte, is_byte}
use Rattle.hg_wire.specs.declared.reader.Reading.{Reading}
use Rattle.hg_wire.specs.declared.reader.Taken.{Taken}
use Rattle.hg_wire.specs.declared.reader.Taken.TheVariants.{Line, More}
pub use Rattle.hg_wire.specs.Readings.{ended_readings, is_skipped, lines_among, lines_of, lines_when, reading_of, readings, readings_after, readings_in, readings_when}

-- How far a stream has come: how many lines have ended, and the bytes so far of the next one.
-- (A line too long for an event may be stored as its first 257 bytes and one byte more, since it reads the same.)
pub record LinesRead : Type 0 where
  pub lines : ℕ
  pub begun : List ℕ

abbrev pub at_start : LinesRead
at_start = record { lines = 0; begun = [] }

-- n lines have ended, and the stream stands at the beginning of a line.
abbrev pub between_lines : ℕ → LinesRead
between_lines n = record { lines = n; begun = [] }

-- The reading with k added to its line number.
abbrev pub numbered_on : ℕ → Reading → Reading
numbered_on k reading = record { line = k + reading.line; event = reading.event }

-- The readings of the rest of a stream.
abbrev pub readings_from : LinesRead → List ℕ → List Reading
readings_from so_far rest = readings_after so_far.lines (so_far.begun ++ rest)

-- The readings of those lines of the rest of a stream that a line feed ends.
abbrev pub ended_from : LinesRead → List ℕ → List Reading
ended_from so_far rest = readings_when false so_far.lines (so_far.begun ++ rest)

-- The lines that end in the rest of a stream, which is over or may go on. Each has its number and its first 257 bytes at most.
abbrev pub lines_from : Bool → LinesRead → List ℕ → List (ℕ × List ℕ)
lines_from over so_far rest = enumerate_from (so_far.lines + 1) (map (take 257) (lines_when over (so_far.begun ++ rest)))

-- the stored bytes of a line: its first 257, and one 0 for all those after them
abbrev pub stored : List ℕ → List ℕ
stored bytes = if nat_lt 257 (length bytes) then take 257 bytes ++ 0 ∷ [] else bytes

-- How far a splitter has come, and the last line that has ended, as it is shown.
pub record Splitting : Type 0 where
  pub so_far : LinesRead
  pub last : List ℕ

-- `count` more lines have ended, and nothing else has changed.
abbrev pub counted_on : ℕ → Splitting → Splitting
counted_on count s = record { so_far = record { lines = s.so_far.lines + count; begun = s.so_far.begun }; last = s.last }

-- The line that had begun has ended.
abbrev pub line_ended : Splitting → Splitting
line_ended s = record { so_far = between_lines (s.so_far.lines + 1); last = take 257 (strip_carriage_return s.so_far.begun) }

-- Taking `used` bytes of the piece ends one line.
pub record EndsLine (old new : Splitting) (piece : List ℕ) (used : ℕ) : Type 0 where
  pub some : 0 < used
  pub within : used ≤ length piece
  pub counted : new.so_far.lines ≡ old.so_far.lines + 1
  pub begun : new.so_far.begun ≡ []
  pub line : (over : Bool) (more : List ℕ) → lines_from over old.so_far (piece ++ more) ≡ (new.so_far.lines, new.last) ∷ lines_from over new.so_far (drop used piece ++ more)

-- Taking all of the piece ends no line.
pub record EndsNoLine (old new : Splitting) (piece : List ℕ) : Type 0 where
  pub counted : new.so_far.lines ≡ old.so_far.lines
  pub lines : (over : Bool) (more : List ℕ) → lines_from over old.so_far (piece ++ more) ≡ lines_from over new.so_far more
  pub none_left : lines_from false new.so_far [] ≡ []

-- At the end of the stream the line that lacks its line feed ends.
pub record EndsLastLine (old new : Splitting) : Type 0 where
  pub counted : new.so_far.lines ≡ old.so_far.lines + 1
  pub begun : new.so_far.begun ≡ []
  pub line : lines_from true old.so_far [] ≡ (new.so_far.lines, new.last) ∷ []

-- Taking `used` bytes of the piece gives one reading.
pub record GivesReading (old new : LinesRead) (piece : List ℕ) (reading : Reading) (used : ℕ) : Type 0 where
  pub some : 0 < used
  pub within : used ≤ length piece
  pub counted : new.lines ≤ old.lines + used
  pub rising : old.lines < new.lines
  pub numbered : reading.line ≡ new.lines
  pub between : new.begun ≡ []
  pub readings : (more : List ℕ) → readings_from old (piece ++ more) ≡ reading ∷ readings_from new (drop used piece ++ more)
  pub ended : (more : List ℕ) → ended_from old (piece ++ more) ≡ reading ∷ ended_from new (drop used piece ++ more)

-- Taking all of the piece gives no reading, and takes each line that a line feed ends in it.
pub record GivesNoReading (old new : LinesRead) (piece : List ℕ) : Type 0 where
  pub counted : new.lines ≤ old.lines + length piece
  pub readings : (more : List ℕ) → readings_from old (piece ++ more) ≡ readings_from new more
  pub ended : (more : List ℕ) → ended_from old (piece ++ more) ≡ ended_from new more
  pub none_left : ended_from new [] ≡ []

-- What is taken of a piece.
abbrev pub Takes : LinesRead → LinesRead → List ℕ → Taken → Type 0
Takes old new piece (Line reading used) = GivesReading old new piece reading used
Takes old new piece More = GivesNoReading old new piece

-- `end` is the place behind the last line feed of a text, or 0 where it has none.
abbrev pub EndLastLine : List ℕ → ℕ → Type 0
EndLastLine text end = (IsLastByte (is_byte 10) text None × (end ≡ 0)) ⊎ ((at : ℕ) × IsLastByte (is_byte 10) text (Some at) × (end ≡ at + 1))
