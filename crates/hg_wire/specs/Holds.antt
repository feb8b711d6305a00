-- For proofs alone: the lines of events on locks, taken in their parts.
use Rattle.std.specs.Prelude.{ℕ, List, Ok}
use Rattle.hg_model.specs.declared.event.HoldKind.{HoldKind}
use Rattle.hg_model.specs.declared.event.HoldKind.TheVariants.{Lock, RdLock, Unlock}
use Rattle.hg_model.specs.Holding.{hold_event}
use Rattle.hg_wire.specs.declared.line.HoldLine.{HoldLine}
use Rattle.hg_wire.specs.declared.verb.Verb.{Verb}
use Rattle.hg_wire.specs.declared.verb.Verb.TheVariants as verb
use Rattle.hg_wire.specs.Streams.{GivesReading, LinesRead}

-- the verb of an operation on a lock
abbrev pub verb_on : HoldKind → Verb
verb_on Lock = verb.Lock
verb_on RdLock = verb.RdLock
verb_on Unlock = verb.Unlock

-- From one state to another, the reader gave the line of this hold.
abbrev pub GivesHold : LinesRead → LinesRead → List ℕ → HoldLine → Type 0
GivesHold old new piece found = GivesReading old new piece (record { line = new.lines; event = Ok (hold_event found.hold) }) found.used
