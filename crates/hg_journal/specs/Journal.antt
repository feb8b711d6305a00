-- The events of a journal.
use Rattle.std.specs.Prelude.{◌≡◌, ◌⊎◌, ℕ, ◌+◌, List, ◌++◌, map, Result, Ok, Err}
use Rattle.std.specs.List.{flat_map, AllByRecursion}
use Rattle.hg_model.specs.declared.event.Named.{Named}
use Rattle.hg_model.specs.declared.verdict.Refusal.{Refusal}
use Rattle.hg_model.specs.declared.verdict.Refusal.TheVariants.{Broken, Damaged, DeviceFault, OutOfMemory}
use Rattle.hg_records.specs.Records.{RecordFits, record_text}
use Rattle.hg_disk.specs.Moments.{Leaves}
use Rattle.hg_disk.specs.State.{DiskState}
use Rattle.hg_gate.specs.Batches.{IsLog, header}
use Rattle.hg_gate.specs.declared.fault.GateFault.{GateFault}
use Rattle.hg_gate.specs.declared.fault.GateFault.TheVariants as fault

-- the bytes of a batch: the records of its events
abbrev pub batch_text : List Named → List ℕ
batch_text events = flat_map record_text events

-- The bytes are a log behind this front, each batch of which is the records of some events. These are the events of all
-- batches in turn.
pub record IsJournalBehind (front bytes : List ℕ) (events : List Named) : Type 0 where
  pub batches : List (List Named)
  pub log : IsLog front bytes (map batch_text batches)
  pub fits : AllByRecursion RecordFits events
  pub whole : events ≡ flat_map (λ batch. batch) batches

-- The bytes are a journal without a base.
abbrev pub IsJournal : List ℕ → List Named → Type 0
IsJournal bytes events = IsJournalBehind header bytes events

-- The bytes are not a journal's.
abbrev pub IsNoJournalBehind : (front bytes : List ℕ) → Type 0
IsNoJournalBehind front bytes = (events : List Named) → ¬ IsJournalBehind front bytes events

abbrev pub IsNoJournal : List ℕ → Type 0
IsNoJournal bytes = (events : List Named) → ¬ IsJournal bytes events

-- The bytes are a journal of the events from before, with all the new ones or none.
abbrev pub IsAllOrNoneBehind : (front : List ℕ) → (past events : List Named) → List ℕ → Type 0
IsAllOrNoneBehind front past events bytes = IsJournalBehind front bytes past ⊎ IsJournalBehind front bytes (past ++ events)

abbrev pub IsAllOrNone : (past events : List Named) → List ℕ → Type 0
IsAllOrNone past events bytes = IsJournal bytes past ⊎ IsJournal bytes (past ++ events)

-- Each image is a journal of these events.
abbrev pub LeavesJournalBehind : (front : List ℕ) → List Named → DiskState → Type 0
LeavesJournalBehind front events s = Leaves (λ image. IsJournalBehind front image events) s

abbrev pub LeavesJournal : List Named → DiskState → Type 0
LeavesJournal events s = Leaves (λ image. IsJournal image events) s

-- If it was refused as damaged, the bytes are not a journal's.
abbrev pub IsNoJournalIfDamaged : {D : Type 0} → List ℕ → (Refusal × D) → Type 0
IsNoJournalIfDamaged bytes refused = refused.0 ≡ Damaged → IsNoJournal bytes

-- Either a device call failed, or there was no memory and the disk was not called.
abbrev pub FailedOrUncalled : {D : Type 0} → D → (Refusal × D) → Type 0
FailedOrUncalled before refused = (refused.0 ≡ DeviceFault) ⊎ ((refused.0 ≡ OutOfMemory) × (refused.1 ≡ before))

-- the refusal that tells a log's fault
abbrev pub of_gate : GateFault → Refusal
of_gate fault.Broken = Broken
of_gate fault.Damaged = Damaged
of_gate fault.DeviceFault = DeviceFault
of_gate fault.OutOfMemory = OutOfMemory

-- the refusals of a call that takes no memory and reads nothing
abbrev pub IsBrokenOrDevice : Refusal → Type 0
IsBrokenOrDevice refusal = (refusal ≡ Broken) ⊎ (refusal ≡ DeviceFault)

-- the refusals of a call that reads and takes memory, if the journal can be used
abbrev pub IsOfReading : Refusal → Type 0
IsOfReading refusal = (refusal ≡ Damaged) ⊎ (refusal ≡ DeviceFault) ⊎ (refusal ≡ OutOfMemory)

-- how many calls of a disk have failed after this refusal; n had failed before it
abbrev pub after_refusal : Refusal → ℕ → ℕ
after_refusal DeviceFault n = n + 1
after_refusal _ n = n

-- how many calls of a disk have failed after this answer; n had failed before it
abbrev pub failed_after : {T : Type 0} → Result T Refusal → ℕ → ℕ
failed_after (Ok value) n = n
failed_after (Err refusal) n = after_refusal refusal n
