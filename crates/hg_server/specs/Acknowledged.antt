-- What a store has of the acknowledgements that clients were sent, and of the events that were accepted in their conversations.
use Rattle.std.specs.Prelude.{◌≡◌, ◌+◌, ◌≤◌, ℕ, All, List, [], ◌∷◌, map, Option, Some, Vec, Result, IfOk, IsTrue}
use Rattle.std.specs.List.{Contains}
use Rattle.hg_model.specs.Contents.{Content}
use Rattle.hg_disk.specs.declared.disk.Disk as disk
use Rattle.hg_store.specs.Shown.{ShownStore, saved}
use Rattle.hg_desk.specs.Counting.{accepted_in, events_of}
use Rattle.hg_desk.specs.Going.{Began, began}
use Rattle.hg_desk.specs.Told.{Told, nothing_told}
use Rattle.hg_server.specs.declared.course.Course.{Course}
use Rattle.hg_server.specs.declared.wire.Transcript.{Transcript}
use Rattle.hg_server.specs.Talking.{Acknowledges, IsAcked, Turn, WasTalk, WereHeld}

-- the share of a worker, and the conversations that it held
abbrev pub Worked : Type 0
Worked = Told × List Transcript

abbrev pub share_of : Worked → Told
share_of worked = worked.0

abbrev pub talks_of : Worked → List Transcript
talks_of worked = worked.1

-- A content has the events of each acknowledgement of these turns.
abbrev pub AcksAreIn : Content → List Turn → Type 0
AcksAreIn c turns = (source number : ℕ) → Acknowledges turns source number → number ≤ c.last source

module _ {D : Type 0} (g : disk.Ghosts D) (opening : Option Began) where
  -- A worker's share was told of each acknowledgement in the conversations that it held.
  abbrev pub ToldItsAcks : Worked → Type 0
  ToldItsAcks worked = All (IsAcked g opening worked.0) worked.1

  -- The conversations that a worker held led its share from nothing to what it was told.
  abbrev pub LedFromNothing : Worked → Type 0
  LedFromNothing worked = WereHeld g opening nothing_told worked.1 worked.0

  -- Where workers ended, those of each did so.
  abbrev pub EachLedFromNothing : {Z E : Type 0} → Result (Vec Worked Z) E → Type 0
  EachLedFromNothing result = IfOk result (λ v. All LedFromNothing v.items)

  -- One of these shares was told of each acknowledgement in these conversations.
  abbrev pub OneWasTold : List Told → List Transcript → Type 0
  OneWasTold shares held = (share : Told) × Contains shares share × All (IsAcked g opening share) held

  -- Of each worker's conversations one of these shares was told.
  abbrev pub TalksAreTold : List Told → List (List Transcript) → Type 0
  TalksAreTold shares talks = All (OneWasTold shares) talks

  -- The same of what threads gave back, where there was memory for it.
  abbrev pub BackAreTold : {Z E : Type 0} → Result (Vec Told Z × List (List Transcript)) E → Type 0
  BackAreTold result = IfOk result (λ back. TalksAreTold back.0.items back.1)

  -- So many events were accepted in these conversations of workers: as many as shares were told of that these led from nothing.
  pub record AcceptedIn (talks : List (List Transcript)) (count : ℕ) : Type 0 where
    pub worked : List Worked
    pub held : talks ≡ map talks_of worked
    pub led : All LedFromNothing worked
    pub told : accepted_in (map share_of worked) ≡ count

  -- What threads gave back, where there was memory for it: all events that the shares were told of were accepted in these conversations.
  abbrev pub BackAreRecorded : {Z E : Type 0} → Result (Vec Told Z × List (List Transcript)) E → Type 0
  BackAreRecorded result = IfOk result (λ back. AcceptedIn back.1 (accepted_in back.0.items))

  -- A store has `before` events, and as many more as were accepted in these conversations.
  abbrev pub HasEventsOf : (before : ℕ) → ShownStore D → List (List Transcript) → Type 0
  HasEventsOf before s talks = (count : ℕ) × AcceptedIn talks count × (events_of g s ≡ before + count)

  -- A conversation was held, and this content has the events of each of its acknowledgements.
  pub record IsDurable (c : Content) (held : Transcript) : Type 0 where
    pub before : Told
    pub after : Told
    pub talk : WasTalk g opening before after held.reads held.writes
    pub durable : AcksAreIn c talk.turns

  -- So was each conversation of each worker.
  abbrev pub TalksAreDurable : Content → List (List Transcript) → Type 0
  TalksAreDurable c talks = All (All (IsDurable c)) talks

module _ {D : Type 0} (g : disk.Ghosts D) where
  -- Over honest devices what clients were told of a store since it was opened as `start` is durable in the store that was left.
  abbrev pub AcksAreDurable : (start left : ShownStore D) → List (List Transcript) → Type 0
  AcksAreDurable start left talks = IsTrue g.is_honest → TalksAreDurable g (Some (began g start)) (saved g left) talks

  -- The same of a server that went so.
  abbrev pub LeavesAcksDurable : Course D → (left : ShownStore D) → Type 0
  LeavesAcksDurable course left = (start : ShownStore D) → course.opened ≡ start ∷ [] → AcksAreDurable start left course.talks

  -- Over honest devices the events that a store has accepted since it was opened as `start` are as many as were accepted in these conversations.
  abbrev pub EventsAreRecorded : (start left : ShownStore D) → List (List Transcript) → Type 0
  EventsAreRecorded start left talks = IsTrue g.is_honest → HasEventsOf g (Some (began g start)) (events_of g start) left talks

  -- The same of a server that went so.
  abbrev pub LeavesEventsRecorded : Course D → (left : ShownStore D) → Type 0
  LeavesEventsRecorded course left = (start : ShownStore D) → course.opened ≡ start ∷ [] → EventsAreRecorded start left course.talks
