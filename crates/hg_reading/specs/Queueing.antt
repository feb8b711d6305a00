-- For proofs alone: parsed lines, queued until they are offered.
use Rattle.std.specs.Prelude.{◌≡◌, ℕ, ◌+◌, ◌≤◌, List, [], ◌∷◌, ◌++◌, length, drop, map, Bool, Option, None, Result, Ok, ⊤, if◌then◌else◌}
use Rattle.hg_model.specs.declared.event.Access.{Access}
use Rattle.hg_model.specs.declared.event.Event.{Event}
use Rattle.hg_model.specs.declared.event.Event.TheVariants as events
use Rattle.hg_model.specs.declared.verdict.Refusal.{Refusal}
use Rattle.hg_model.specs.Holding.{hold_event}
use Rattle.hg_streams.specs.declared.call.WriteCall.{WriteCall}
use Rattle.hg_streams.specs.Shown.{Outgoing}
use Rattle.hg_wire.specs.declared.reader.Reading.{Reading}
use Rattle.hg_wire.specs.Streams.{GivesNoReading, GivesReading, LinesRead, between_lines, ended_from, numbered_on, readings_from}
use Rattle.hg_reading.specs.declared.queued.Queued.{Queued}
use Rattle.hg_reading.specs.declared.queued.Queued.TheVariants.{Passed, Fork, Join, Hold, Access as QueuedAccess, Alloc, Free, Send, Recv}
use Rattle.hg_reading.specs.declared.part.Next.{Next}
use Rattle.hg_reading.specs.declared.part.Next.TheVariants.{Bad, End}
use Rattle.hg_reading.specs.declared.part.Next.TheVariants as next
use Rattle.hg_reading.specs.declared.part.Part.{Part}
use Rattle.hg_reading.specs.Taking.{Taking}

-- what is read of the line of an event behind n lines
abbrev pub one : ℕ → Event → List Reading
one n event = record { line = n + 1; event = Ok event } ∷ []

-- the event of a read or a write
abbrev pub access_of : Bool → Access → Event
access_of is_write access = if is_write then events.Write access else events.Read access

-- what is read of the line of a read or a write behind n lines
abbrev pub one_access : ℕ → Bool → Access → List Reading
one_access n is_write access = one n (access_of is_write access)

-- how many lines a queued item stands for
abbrev pub lines_by : Queued → ℕ
lines_by (Passed count) = count
lines_by _ = 1

-- the readings of a queued item, behind n lines
abbrev pub reading_queued : ℕ → Queued → List Reading
reading_queued n (Passed count) = []
reading_queued n (Fork p c) = one n (events.Fork p c)
reading_queued n (Join p c) = one n (events.Join p c)
reading_queued n (Hold kind t l) = one n (hold_event (record { t = t; l = l; kind = kind }))
reading_queued n (QueuedAccess len is_write t at) = one_access n is_write (record { t = t; at = at; len = len })
reading_queued n (Alloc t len at) = one n (events.Alloc (record { t = t; at = at; len = len }))
reading_queued n (Free t len at) = one n (events.Free (record { t = t; at = at; len = len }))
reading_queued n (Send t k) = one n (events.Send t k)
reading_queued n (Recv t k) = one n (events.Recv t k)

-- how many lines all queued items stand for
abbrev pub lines_queued : List Queued → ℕ
lines_queued [] = 0
lines_queued (it ∷ queued) = lines_by it + lines_queued queued

-- the readings of all queued items, behind n lines
abbrev pub readings_queued : ℕ → List Queued → List Reading
readings_queued n [] = []
readings_queued n (it ∷ queued) = reading_queued n it ++ readings_queued (n + lines_by it) queued

-- The queued item is the line of this event.
abbrev pub IsLineOf : Queued → Event → Type 0
IsLineOf it event = (n : ℕ) → reading_queued n it ≡ one n event

-- The queued item is the line of an event.
abbrev pub IsEvent : Queued → Type 0
IsEvent (Passed count) = ⊥
IsEvent _ = ⊤

-- Lines that were parsed: how many they are, and what was read of them, numbered from the first of them on. Nothing is read of a line that is
-- empty or a comment, but it counts.
pub record Lines : Type 0 where
  pub count : ℕ
  pub readings : List Reading

abbrev pub no_lines : Lines
no_lines = record { count = 0; readings = [] }

-- these lines, `passed` more of which nothing was read, and the line of an event
abbrev pub more_lines : Lines → ℕ → Queued → Lines
more_lines held passed it = record { count = held.count + passed + 1; readings = held.readings ++ reading_queued (held.count + passed) it }

-- what was read of these lines, behind n others
abbrev pub readings_behind : ℕ → Lines → List Reading
readings_behind n held = map (numbered_on n) held.readings

-- the lines that queued items stand for
abbrev pub lines_of : List Queued → Lines
lines_of queued = record { count = lines_queued queued; readings = readings_queued 0 queued }

-- Of the lines that were due the sink took a front: all of them, where each was passed.
pub record IsOffered {S E : Type 0} (takes : Taking S E) (before : S) (at_first : List WriteCall) (due : List Reading) (r : Result (Option E) Refusal) (now : S) (at_last : List WriteCall) : Type 0 where
  pub lines : List Reading
  pub left : List Reading
  pub joined : due ≡ lines ++ left
  pub steps : takes before at_first lines r now at_last
  pub all : r ≡ Ok None → left ≡ []

-- Of these lines, behind n others, the sink took a front, by what it wrote to the output.
abbrev pub OffersLines : {S E W : Type 0} → Taking S E → ℕ → Lines → S → Outgoing W → Result (Option E) Refusal → S → Outgoing W → Type 0
OffersLines takes n held before output r now printed = IsOffered takes before output.calls (readings_behind n held) r now printed.calls

-- Of queued items behind n lines the sink took a front, by what it wrote to the output.
abbrev pub OffersQueued : {S E W : Type 0} → Taking S E → ℕ → List Queued → S → Outgoing W → Result (Option E) Refusal → S → Outgoing W → Type 0
OffersQueued takes n queued before output r now printed = IsOffered takes before output.calls (readings_queued n queued) r now printed.calls

-- These are all readings of the first lines of the text, however many lines stand before it.
pub record IsQueued (text : List ℕ) (held : Lines) (lines bytes : ℕ) : Type 0 where
  pub within : bytes ≤ length text
  pub counted : lines ≤ bytes
  pub stands_for : held.count ≤ length text
  pub few : length held.readings ≤ bytes
  pub readings : (n : ℕ) (more : List ℕ) → readings_from (between_lines n) (text ++ more) ≡ readings_behind n held ++ readings_from (between_lines (n + lines)) (drop bytes text ++ more)
  pub ended : (n : ℕ) (more : List ℕ) → ended_from (between_lines n) (text ++ more) ≡ readings_behind n held ++ ended_from (between_lines (n + lines)) (drop bytes text ++ more)

-- what the reader found next in the rest of a text
abbrev pub FindsNext : LinesRead → LinesRead → List ℕ → Next → Type 0
FindsNext old new rest (next.Line it used) = (event : Event) × IsLineOf it event × GivesReading old new rest (record { line = new.lines; event = Ok event }) used
FindsNext old new rest Bad = ⊤
FindsNext old new rest End = GivesNoReading old new rest

module _ {Q : Type 0} (held : Q → Lines) where
  -- The part holds the queued lines of this text.
  pub record Holds (part : Part Q) (text : List ℕ) : Type 0 where
    pub given : part.given ≡ length text
    pub queued : IsQueued text (held part.queue) part.extent.lines part.extent.bytes

  -- There is one part, and it holds the text.
  abbrev pub HoldsAlone : List (Part Q) → List ℕ → Type 0
  HoldsAlone [] text = ⊥
  HoldsAlone (part ∷ []) text = Holds part text
  HoldsAlone (part ∷ other ∷ parts) text = ⊥

  -- The parts hold stretches of the text that follow one another from its start on.
  abbrev pub AreHeld : List (Part Q) → List ℕ → Type 0
  AreHeld [] text = ⊤
  AreHeld (part ∷ parts) text = (given : List ℕ) × (behind : List ℕ) × (text ≡ given ++ behind) × Holds part given × AreHeld parts behind
