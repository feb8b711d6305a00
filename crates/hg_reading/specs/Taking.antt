-- What a sink takes of a trace text.
use Rattle.std.specs.Prelude.{◌≡◌, ◌⊎◌, ℕ, ◌+◌, ◌^◌, ◌≤◌, List, [], ◌∷◌, ◌++◌, length, Option, None, Some, Result, Ok, Err, ⊤}
use Rattle.hg_model.specs.declared.event.Hold.{Hold}
use Rattle.hg_model.specs.declared.verdict.Refusal.{Refusal}
use Rattle.hg_model.specs.declared.verdict.Refusal.TheVariants.{DeviceFault, OutOfMemory}
use Rattle.hg_model.specs.Holding.{hold_event}
use Rattle.hg_streams.specs.declared.call.ReadCall.{ReadCall}
use Rattle.hg_streams.specs.declared.call.ReadCall.TheVariants.{Gave}
use Rattle.hg_streams.specs.declared.call.WriteCall.{WriteCall}
use Rattle.hg_streams.specs.Shown.{Outgoing}
use Rattle.hg_streams.specs.Calls.{NoneFailed, ends_met, failed_reads, given, refused_reads}
use Rattle.hg_wire.specs.Accesses.{event_of}
use Rattle.hg_wire.specs.declared.line.AccessLine.{AccessLine}
use Rattle.hg_wire.specs.declared.reader.Reading.{Reading}
use Rattle.hg_wire.specs.Streams.{LinesRead, ended_from, ended_readings, readings, readings_from}

-- How a sink S takes lines: from its state and the calls of its output, by these lines, to an answer, a state and calls. A line may end
-- the run with an E.
abbrev pub Taking : Type 0 → Type 0 → Type 1
Taking S E = S → List WriteCall → List Reading → Result (Option E) Refusal → S → List WriteCall → Type 0

-- A sink that judges each line where it is offered is settled in each state.
abbrev pub AlwaysSettled : {S : Type 0} → S → Type 0
AlwaysSettled s = ⊤

-- what is read of a line that is a read or a write
abbrev pub access_at : ℕ → AccessLine → List Reading
access_at line found = record { line = line; event = Ok (event_of found) } ∷ []

-- what is read of a line that is an event on a lock
abbrev pub hold_at : ℕ → Hold → List Reading
hold_at line hold = record { line = line; event = Ok (hold_event hold) } ∷ []

-- Whatever follows these bytes, the readings of the whole text begin with these lines.
abbrev pub Begins : List ℕ → List Reading → Type 0
Begins bytes lines = (more : List ℕ) → (rest : List Reading) × (readings (bytes ++ more) ≡ lines ++ rest)

-- The reader holds back no line that a line feed has ended.
abbrev pub HasNoneLeft : LinesRead → Type 0
HasNoneLeft p = ended_from p [] ≡ []

module _ {S E : Type 0} (takes : Taking S E) where
  -- The sink passed the lines of a piece up to this rest of it.
  pub record Passes (old : LinesRead) (before : S) (at_first : List WriteCall) (piece : List ℕ) (new : LinesRead) (now : S) (at_last : List WriteCall) (rest : List ℕ) : Type 0 where
    pub lines : List Reading
    pub steps : takes before at_first lines (Ok None) now at_last
    pub readings : (more : List ℕ) → readings_from old (piece ++ more) ≡ lines ++ readings_from new (rest ++ more)
    pub ended : (more : List ℕ) → ended_from old (piece ++ more) ≡ lines ++ ended_from new (rest ++ more)
    pub counted : new.lines + length rest ≤ old.lines + length piece
    pub few : length lines + length rest ≤ length piece

  -- A line of the piece ended the run or was broken off, whatever follows the piece.
  pub record StopsIn (old : LinesRead) (before : S) (at_first : List WriteCall) (piece : List ℕ) (r : Result (Option E) Refusal) (now : S) (at_last : List WriteCall) : Type 0 where
    pub lines : List Reading
    pub steps : takes before at_first lines r now at_last
    pub front : (more : List ℕ) → (rest : List Reading) × (readings_from old (piece ++ more) ≡ lines ++ rest)

  -- What came of a piece: each line was passed and the piece taken whole, or a line ended the run or was broken off.
  abbrev pub Pushes : LinesRead → S → List WriteCall → List ℕ → Result (Option E) Refusal → LinesRead → S → List WriteCall → Type 0
  Pushes old before at_first piece (Ok None) new now at_last = Passes old before at_first piece new now at_last []
  Pushes old before at_first piece (Ok (Some end)) new now at_last = StopsIn old before at_first piece (Ok (Some end)) now at_last
  Pushes old before at_first piece (Err r) new now at_last = StopsIn old before at_first piece (Err r) now at_last

  -- What came of a piece, by the output in place of its calls.
  abbrev pub Offers : {W : Type 0} → LinesRead → S → Outgoing W → List ℕ → Result (Option E) Refusal → LinesRead → S → Outgoing W → Type 0
  Offers old before output piece r new now printed = Pushes old before output.calls piece r new now printed.calls

  -- A read met the end of the input, and these are all its lines; or the answer is not `Ok None`, and the input begins with these lines,
  -- whatever follows what was read.
  abbrev pub AreDue : List ReadCall → List Reading → Result (Option E) Refusal → Type 0
  AreDue reads lines r =
      ((earlier : List ReadCall) × (reads ≡ Gave [] ∷ earlier) × (lines ≡ readings (given earlier)))
      ⊎ ((r ≡ Ok None → ⊥) × Begins (given reads) lines)

  -- There was no memory before the first read, or one read was refused memory.
  abbrev pub LackedMemory : List ReadCall → Type 0
  LackedMemory reads = (failed_reads reads ≡ 0) × ((reads ≡ []) ⊎ (refused_reads reads ≡ 1))

  -- One read failed, or 2 ^ 32 were made.
  abbrev pub LackedInput : List ReadCall → Type 0
  LackedInput reads = (refused_reads reads ≡ 0) × ((failed_reads reads ≡ 1) ⊎ (2 ^ 32 ≤ length reads))

  -- Why the reading itself was broken off: for want of memory, or since a read failed or too many were made.
  abbrev pub ReadCause : List ReadCall → Refusal → Type 0
  ReadCause reads r = ((r ≡ OutOfMemory) × LackedMemory reads) ⊎ ((r ≡ DeviceFault) × LackedInput reads)

  module _ (settled : S → Type 0) where
    -- No read since `first` failed or met the end of the input, and each line that a line feed ended was passed. The sink is settled.
    pub record HasRead (first now : List ReadCall) (before : S) (at_first : List WriteCall) (p : LinesRead) (here : S) (at_last : List WriteCall) : Type 0 where
      pub later : List ReadCall
      pub since : now ≡ later ++ first
      pub intact : NoneFailed later
      pub underway : ends_met later ≡ 0
      pub lines : List Reading
      pub steps : takes before at_first lines (Ok None) here at_last
      pub readings : (more : List ℕ) → readings (given later ++ more) ≡ lines ++ readings_from p more
      pub ended : (more : List ℕ) → ended_readings (given later ++ more) ≡ lines ++ ended_from p more
      pub none_left : HasNoneLeft p
      pub judged : settled here

    -- Each of these reads was needed: none before the last met the end of the input, and each line that was whole by then was passed and
    -- judged.
    pub record EachIsNeeded (before : S) (at_first : List WriteCall) (reads : List ReadCall) : Type 0 where
      pub last : ReadCall
      pub earlier : List ReadCall
      pub newest : reads ≡ last ∷ earlier
      pub underway : ends_met earlier ≡ 0
      pub now : S
      pub calls : List WriteCall
      pub passed : takes before at_first (ended_readings (given earlier)) (Ok None) now calls
      pub judged : settled now

    -- An input was read to its end, or until it was known that a line ended the run or was broken off, and no further; no read failed. Where
    -- no line did, all are judged.
    pub record WasRead (first now : List ReadCall) (before : S) (at_first : List WriteCall) (r : Result (Option E) Refusal) (here : S) (at_last : List WriteCall) : Type 0 where
      pub later : List ReadCall
      pub since : now ≡ later ++ first
      pub intact : NoneFailed later
      pub needed : EachIsNeeded before at_first later
      pub lines : List Reading
      pub due : AreDue later lines r
      pub steps : takes before at_first lines r here at_last
      pub judged : r ≡ Ok None → settled here

    -- The reading itself was broken off, behind lines that were passed and judged.
    pub record ReadBroke (first now : List ReadCall) (before : S) (at_first : List WriteCall) (r : Refusal) (here : S) (at_last : List WriteCall) : Type 0 where
      pub later : List ReadCall
      pub since : now ≡ later ++ first
      pub underway : ends_met later ≡ 0
      pub lines : List Reading
      pub front : Begins (given later) lines
      pub steps : takes before at_first lines (Ok None) here at_last
      pub judged : settled here
      pub cause : ReadCause later r

    -- What reading a whole input came to.
    abbrev pub Reads : List ReadCall → List ReadCall → S → List WriteCall → Result (Option E) Refusal → S → List WriteCall → Type 0
    Reads first now before at_first (Ok stop) here at_last = WasRead first now before at_first (Ok stop) here at_last
    Reads first now before at_first (Err r) here at_last = WasRead first now before at_first (Err r) here at_last ⊎ ReadBroke first now before at_first r here at_last
