-- How feeding a store ends by a fault.
use Rattle.std.specs.Prelude.{◌≡◌, ◌⊎◌, ◌+◌, ◌≤◌, ◌^◌, Bool, true, false, List, [], length, Result, Ok, Err, IsTrue}
use Rattle.hg_model.specs.declared.verdict.Refusal.{Refusal}
use Rattle.hg_model.specs.declared.verdict.Refusal.TheVariants.{Broken, Damaged, FullEvents, FullSlots, DeviceFault, OutOfMemory}
use Rattle.hg_disk.specs.declared.disk.Disk as disk
use Rattle.hg_checkpoint.specs.Told.{refusal_of}
use Rattle.hg_checkpoint.specs.declared.cause.Cause.TheVariants as cause
use Rattle.hg_checkpoint.specs.declared.phase.Phase.{Phase}
use Rattle.hg_store.specs.declared.devices.Devices.{Devices}
use Rattle.hg_store.specs.Images.{failures_of}
use Rattle.hg_store.specs.declared.steps.StepFault.{StepFault}
use Rattle.hg_store.specs.declared.steps.StepFault.TheVariants as step
use Rattle.hg_store.specs.declared.steps.StorePhase.TheVariants as store
use Rattle.hg_store.specs.Answers.{IsOfFreezing}
use Rattle.hg_store.specs.Shown.{IsFlushed, IsIn, ShownStore, phase_of, words}
use Rattle.hg_store.specs.Store.{HasItsNumber}
use Rattle.hg_streams.specs.declared.call.ReadCall.{ReadCall}
use Rattle.hg_streams.specs.declared.call.WriteCall.{WriteCall}
use Rattle.hg_streams.specs.Calls.{NoneRefused, failed_reads}
use Rattle.hg_streams.specs.Told.{told_refusal}
use Rattle.hg_streams.specs.Faults.{IsStreamFault}
use Rattle.hg_commands.specs.Storing.{failed_calls}
use Rattle.hg_store.specs.Refusals.{IsNotOpened}

-- The store works, and its next checkpoint is in this phase.
abbrev pub WorksIn : {D : Type 0} → Phase → ShownStore D → Type 0
WorksIn phase s = (s.is_broken ≡ false) × IsIn phase s

-- The store works, no event is pending, and no checkpoint is in progress.
abbrev pub Rests : {D : Type 0} → ShownStore D → Type 0
Rests s = (s.is_broken ≡ false) × (phase_of s ≡ store.Idle)

-- The store works, and the pages of its next checkpoint are written.
abbrev pub HasFlushed : {D : Type 0} → ShownStore D → Type 0
HasFlushed s = (s.is_broken ≡ false) × IsFlushed s

-- One page less waits.
abbrev pub LosesOne : {D : Type 0} → (old new : ShownStore D) → Type 0
LosesOne old new = length (words new).waiting + 1 ≡ length (words old).waiting

-- A page was written, and one less waits; or none waits.
abbrev pub WritesOne : {D : Type 0} → (old new : ShownStore D) → Bool → Type 0
WritesOne old new true = LosesOne old new
WritesOne old new false = (words new).waiting ≡ []

-- what is told of a step of a checkpoint that was not made
abbrev pub refusal_by : StepFault → Refusal
refusal_by (step.WrongPhase p) = Broken
refusal_by (step.Refused why) = refusal_of why

-- The refusal tells why the step was not made.
abbrev pub IsToldBy : {T : Type 0} → Result T StepFault → Refusal → Type 0
IsToldBy (Ok value) r = ⊥
IsToldBy (Err fault) r = r ≡ refusal_by fault

-- Why no checkpoint of this store can begin: its newest root has the last number, or fewer slots are free than pages were changed.
abbrev pub IsShort : {D : Type 0} → ShownStore D → Refusal → Type 0
IsShort s r = ((r ≡ FullEvents) × IsOfFreezing s cause.FullEvents) ⊎ ((r ≡ FullSlots) × IsOfFreezing s cause.FullSlots)

module _ {D : Type 0} (g : disk.Ghosts D) where
  -- What ends the feeding of a store that works, at a line or in a checkpoint: a device or a stream failed, or memory was refused; or, over
  -- devices that are not honest, bytes of a page are outside the formats.
  abbrev pub IsLineFault : Refusal → Type 0
  IsLineFault r = IsStreamFault r ⊎ ((r ≡ Damaged) × (IsTrue g.is_honest → ⊥))

  -- No checkpoint of this store, which rests, can begin; nothing was done to these devices, which are its own. Of honest devices each
  -- image has a newest checkpoint of the store's number.
  pub record IsRefusedCheckpoint (s : ShownStore D) (now : Devices D) (r : Refusal) : Type 0 where
    pub rests : Rests s
    pub still : now ≡ s.devices
    pub number : IsTrue g.is_honest → HasItsNumber g s
    pub short : IsShort s r

  -- Why a checkpoint of this store was not made, which left these devices.
  abbrev pub IsCheckpointFault : ShownStore D → Devices D → Refusal → Type 0
  IsCheckpointFault s now r = IsLineFault r ⊎ IsRefusedCheckpoint s now r

  -- What ends the feeding of a store that works, which leaves these devices. A checkpoint may be refused only where one was asked for.
  abbrev pub IsFeedFault : Bool → Devices D → Refusal → Type 0
  IsFeedFault asked now r = IsLineFault r ⊎ ((asked ≡ true) × ((s : ShownStore D) × IsRefusedCheckpoint s now r))

  -- Why a store was not opened. Nothing was read or written.
  pub record FailsToOpen (old new : Devices D) (reads_old reads_new : List ReadCall) (calls_old calls_new : List WriteCall) (r : Refusal) : Type 0 where
    pub refused : IsNotOpened g old new r
    pub unread : reads_new ≡ reads_old
    pub unwritten : calls_new ≡ calls_old

  -- Why feeding a store ended: one call of a device or a stream failed where that is told, and none where another cause is; or 2^32 reads
  -- were made. A read that was refused memory is told as want of memory.
  pub record FeedFails (asked : Bool) (old new : Devices D) (reads_old reads_new : List ReadCall) (calls_old calls_new : List WriteCall) (r : Refusal) : Type 0 where
    pub is : IsFeedFault asked new r
    pub failed : (failed_reads reads_new + failed_calls g new calls_new ≡ told_refusal r + (failed_reads reads_old + failed_calls g old calls_old))
        ⊎ ((r ≡ DeviceFault) × (2 ^ 32 + length reads_old ≤ length reads_new))
    pub memory : (r ≡ OutOfMemory) ⊎ NoneRefused reads_old reads_new

  -- Why a command that feeds a store ended by a fault: the store was not opened, or feeding it failed then.
  abbrev pub HasFeedCause : Bool → Devices D → Devices D → List ReadCall → List ReadCall → List WriteCall → List WriteCall → Refusal → Type 0
  HasFeedCause asked old new reads_old reads_new calls_old calls_new r =
      FailsToOpen old new reads_old reads_new calls_old calls_new r
      ⊎ ((opened : Devices D) × ((failures_of g opened ≡ failures_of g old) × FeedFails asked opened new reads_old reads_new calls_old calls_new r))
