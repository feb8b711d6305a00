-- What each step does and answers.
use Rattle.std.specs.Prelude.{◌≡◌, ◌≢◌, ◌+◌, ◌<◌, ◌≤◌, ◌^◌, ℕ, [], Bool, true, false, Option, Result, Ok, Err, OnOk, OnErr, IfOk, MatchBool, if◌then◌else◌}
use Rattle.hg_root.specs.declared.root.TheConstants.{MOST_CHECKPOINTS}
use Rattle.hg_disk.specs.declared.disk.Disk as disk
use Rattle.hg_journal.specs.Journal.{failed_after}
use Rattle.hg_pages.specs.Encoded.{Encoded}
use Rattle.hg_pool.specs.Calls.{HasWaited, IsNextJob, IsStale, LosesWritten}
use Rattle.hg_pool.specs.declared.job.Job.{Job}
use Rattle.hg_pool.specs.declared.job.Put.{Put}
use Rattle.hg_pool.specs.declared.job.Put.TheVariants as put
use Rattle.hg_checkpoint.specs.Calls.{IsOfDevice, IsOfWriting}
use Rattle.hg_checkpoint.specs.Phases.{Never}
use Rattle.hg_checkpoint.specs.declared.cause.Cause.TheVariants as cause
use Rattle.hg_checkpoint.specs.declared.phase.Phase.TheVariants as phase
use Rattle.hg_store.specs.Answers.{IfRefused, IsAllowed, IsOfFreezing, failed_by}
use Rattle.hg_store.specs.Paging.{ContentLoaded, EvictDone, LoadDone}
use Rattle.hg_store.specs.Shown.{HasNextNumber, IsFlushed, IsIn, ShownStore, after_turn, current, is_turn_due, live, phase_of, words}
use Rattle.hg_store.specs.Steps.{CheckpointDone, CommitDone, ContentOffered, OfferDone, RetireDone, SameJournals}
use Rattle.hg_store.specs.Store.{HasOpenedFrozen, StandMeanwhile}
use Rattle.hg_store.specs.declared.steps.Step.{Step}
use Rattle.hg_store.specs.declared.steps.Step.TheVariants as step
use Rattle.hg_store.specs.declared.steps.StepFault.{StepFault}
use Rattle.hg_store.specs.declared.steps.StepFault.TheVariants.{Refused}
use Rattle.hg_store.specs.declared.steps.StepResult.{StepResult}
use Rattle.hg_store.specs.declared.steps.StepResult.TheVariants as told
use Rattle.hg_store.specs.declared.steps.StorePhase.TheVariants as store

-- The answer is of this kind, and P holds of its value.
abbrev pub Tells : {X : Type 0} → (X → StepResult) → StepResult → (X → Type 0) → Type 0
Tells {X} kind result P = (x : X) × (result ≡ kind x) × P x

-- the slots and the detector stay the same
pub record SameWords {D : Type 0} (old new : ShownStore D) : Type 0 where
  pub slots : new.devices.slots ≡ old.devices.slots
  pub detector : new.detector ≡ old.detector

-- the root files stay the same
pub record SameRoots {D : Type 0} (old new : ShownStore D) : Type 0 where
  pub root0 : new.devices.root0 ≡ old.devices.root0
  pub root1 : new.devices.root1 ≡ old.devices.root1

-- the newest checkpoint and the one in progress stay the same
pub record SameNumbers {D : Type 0} (old new : ShownStore D) : Type 0 where
  pub counted : new.counted ≡ old.counted
  pub number : new.progress.number ≡ old.progress.number
  pub next : new.progress.next ≡ old.progress.next
  pub head : new.progress.head ≡ old.progress.head

-- A checkpoint begins only if no event is pending and none is in progress.
abbrev pub BeginsWhenIdle : {D : Type 0} → (old new : ShownStore D) → Result (Unit {0}) StepFault → Type 0
BeginsWhenIdle old new result = CheckpointDone old new (phase_of old ≡ store.Idle) (IsOfFreezing old) phase.Flushing result

-- The newest open root is the one that was opened, or the same as before.
abbrev pub CountsFrozen : {D : Type 0} → (old new : ShownStore D) → Result ℕ StepFault → Type 0
CountsFrozen old new result = OnOk result (new.counted ≡ old.frozen.parts.events) × OnErr result (new.counted ≡ old.counted)

-- A page is put by a store that works, in any phase.
abbrev pub PutsInAnyPhase : {D : Type 0} → (old new : ShownStore D) → Result Put StepFault → Type 0
PutsInAnyPhase old new result = CheckpointDone old new (old.is_broken ≡ false) IsOfDevice old.progress.phase result

-- The pages are sealed only once all are written.
abbrev pub SealsWhenFlushed : {D : Type 0} → (old new : ShownStore D) → Result (Unit {0}) StepFault → Type 0
SealsWhenFlushed old new result = CheckpointDone old new (IsFlushed old) IsOfDevice phase.Sealed result

-- The file of the root is prepared only once the pages are sealed.
abbrev pub PreparesWhenSealed : {D : Type 0} → (old new : ShownStore D) → Result (Unit {0}) StepFault → Type 0
PreparesWhenSealed old new result = CheckpointDone old new (IsIn phase.Sealed old) IsOfDevice phase.Prepared result

-- The root is written only once its file is prepared.
abbrev pub WritesWhenPrepared : {D : Type 0} → (old new : ShownStore D) → Result (Unit {0}) StepFault → Type 0
WritesWhenPrepared old new result = CheckpointDone old new (IsIn phase.Prepared old) IsOfWriting phase.Written result

-- The root is opened only once it is written.
abbrev pub OpensWhenWritten : {D : Type 0} → (old new : ShownStore D) → Result ℕ StepFault → Type 0
OpensWhenWritten old new result = CheckpointDone old new (IsIn phase.Written old) IsOfDevice phase.Idle result

-- The journals have taken turns if a turn was due, and else they are as they were.
abbrev pub TakesTurns : {D : Type 0} → (old new : ShownStore D) → Type 0
TakesTurns old new = MatchBool (is_turn_due old) (new.turns ≡ after_turn old.turns) (new.turns ≡ old.turns × (new.devices ≡ old.devices))

-- the journal that was not the current one
abbrev pub other_since : {D : Type 0} → (old new : ShownStore D) → D
other_since old new = if old.turns.is_turned then new.devices.journal1 else new.devices.journal0

-- A turn that was due is taken; or a device call failed, and the store is broken.
abbrev pub TurnAnswers : {D : Type 0} → (old new : ShownStore D) → Result (Unit {0}) StepFault → Type 0
TurnAnswers old new (Ok value) = (new.is_broken ≡ false) × TakesTurns old new
TurnAnswers old new (Err fault) = (fault ≡ Refused cause.DeviceFault) × (new.is_broken ≡ true)

-- The journal that was the current one is not called.
abbrev pub LeavesCurrent : {D : Type 0} → (old new : ShownStore D) → Type 0
LeavesCurrent old new = (if old.turns.is_turned then new.devices.journal0 else new.devices.journal1) ≡ current old

-- A checkpoint begins, with the number behind that of the newest one. The spare journal alone is called.
pub record FreezeDone {D : Type 0} (old new : ShownStore D) (result : Result (Unit {0}) StepFault) : Type 0 where
  pub done : BeginsWhenIdle old new result
  pub last : OnOk result (old.progress.number < MOST_CHECKPOINTS)
  pub number : OnOk result (HasNextNumber old new)
  pub frozen : OnOk result (new.frozen ≡ old.detector)
  pub turned : OnOk result (TakesTurns old new)
  pub current : LeavesCurrent old new
  pub counted : new.counted ≡ old.counted
  pub slots : new.devices.slots ≡ old.devices.slots
  pub roots : SameRoots old new

-- The page is the first of the waiting ones, with its cells at the freeze. Nothing changes.
pub record JobTaken {D : Type 0} (old new : ShownStore D) (result : Result (Option Job) StepFault) : Type 0 where
  pub same : new ≡ old
  pub allowed : IsAllowed old (IsIn phase.Flushing old) Never result
  pub job : IfOk result (IsNextJob (words old))

-- A page is written if it waits and the bytes are those of its cells at the freeze, and then one page less waits. The phase stays.
pub record PutDone {D : Type 0} (old new : ShownStore D) (page : Encoded) (result : Result Put StepFault) : Type 0 where
  pub done : PutsInAnyPhase old new result
  pub written : IfOk result (λ p. p ≡ put.Written → HasWaited (words old) page)
  pub stale : IfOk result (λ p. p ≡ put.Stale → IsStale (words old) page)
  pub nothing : IfOk result (λ p. p ≡ put.Stale → new ≡ old)
  pub waiting : LosesWritten page.page (words old).waiting (words new).waiting result
  pub roots : SameRoots old new
  pub journals : SameJournals old new
  pub counted : new.counted ≡ old.counted
  pub progress : new.progress ≡ old.progress
  pub frozen : new.frozen ≡ old.frozen

-- The pages are durable, once none waits.
pub record SealDone {D : Type 0} (old new : ShownStore D) (result : Result (Unit {0}) StepFault) : Type 0 where
  pub done : SealsWhenFlushed old new result
  pub roots : SameRoots old new
  pub journals : SameJournals old new
  pub numbers : SameNumbers old new
  pub frozen : new.frozen ≡ old.frozen

-- The file of the next root is closed.
pub record PrepareDone {D : Type 0} (old new : ShownStore D) (result : Result (Unit {0}) StepFault) : Type 0 where
  pub done : PreparesWhenSealed old new result
  pub journals : SameJournals old new
  pub words : SameWords old new
  pub numbers : SameNumbers old new
  pub frozen : new.frozen ≡ old.frozen

-- The next root is durable behind its closed gate.
pub record WriteDone {D : Type 0} (old new : ShownStore D) (result : Result (Unit {0}) StepFault) : Type 0 where
  pub done : WritesWhenPrepared old new result
  pub journals : SameJournals old new
  pub words : SameWords old new
  pub numbers : SameNumbers old new
  pub frozen : new.frozen ≡ old.frozen

-- The next root is the newest one, and its number is answered. It counts the events at the freeze.
pub record OpenDone {D : Type 0} (old new : ShownStore D) (result : Result ℕ StepFault) : Type 0 where
  pub done : OpensWhenWritten old new result
  pub journals : SameJournals old new
  pub number : IfOk result (λ n. (n ≡ old.progress.next) × (new.progress.number ≡ n))
  pub counted : CountsFrozen old new result
  pub slots : new.devices.slots ≡ old.devices.slots
  pub frozen : new.frozen ≡ old.frozen

-- Each step is answered by an answer of its own kind.
abbrev pub StepDone : {D : Type 0} → disk.Ghosts D → (old new : ShownStore D) → Step → StepResult → Type 0
StepDone g old new (step.Offer n) result = Tells told.Offered result (λ r. OfferDone g old new n r)
StepDone g old new step.Commit result = Tells told.Committed result (λ r. CommitDone g old new r)
StepDone g old new step.Freeze result = Tells told.Frozen result (λ r. FreezeDone old new r)
StepDone g old new step.TakeJob result = Tells told.Taken result (λ r. JobTaken old new r)
StepDone g old new (step.Put page) result = Tells told.Put result (λ r. PutDone old new page r)
StepDone g old new step.SealPages result = Tells told.Sealed result (λ r. SealDone old new r)
StepDone g old new step.PrepareRoot result = Tells told.Prepared result (λ r. PrepareDone old new r)
StepDone g old new step.WriteRoot result = Tells told.Written result (λ r. WriteDone old new r)
StepDone g old new step.OpenRoot result = Tells told.Opened result (λ r. OpenDone old new r)
StepDone g old new step.Evict result = Tells told.Evicted result (λ r. EvictDone old new r)
StepDone g old new (step.Load page) result = Tells told.Loaded result (λ r. LoadDone old new page r)
StepDone g old new step.Retire result = Tells told.Retired result (λ r. RetireDone old new r)

-- Over honest devices each part of a detector has a spelling.
pub record ContentFrozen {D : Type 0} (g : disk.Ghosts D) (old new : ShownStore D) (result : Result (Unit {0}) StepFault) : Type 0 where
  pub live : live g new ≡ live g old
  pub undamaged : IfRefused (λ r. r ≢ cause.Damaged) result

-- After a root was opened, it is the newest one, and has the content at the freeze.
pub record ContentOpened {D : Type 0} (g : disk.Ghosts D) (old new : ShownStore D) (result : Result ℕ StepFault) : Type 0 where
  pub live : live g new ≡ live g old
  pub checkpoint : IfOk result (HasOpenedFrozen g old new)

-- The live content over honest devices: an accepted event joins it, and each other step leaves it as it is.
abbrev pub ContentDone : {D : Type 0} → disk.Ghosts D → (old new : ShownStore D) → Step → StepResult → Type 0
ContentDone g old new (step.Offer n) result = Tells told.Offered result (λ r. ContentOffered g old new n r)
ContentDone g old new step.Freeze result = Tells told.Frozen result (λ r. ContentFrozen g old new r)
ContentDone g old new step.OpenRoot result = Tells told.Opened result (λ r. ContentOpened g old new r)
ContentDone g old new (step.Load page) result = Tells told.Loaded result (λ r. ContentLoaded g old new r)
ContentDone g old new _ result = live g new ≡ live g old

-- During a commit, and after a failed one, an image may have either content.
abbrev pub in_doubt_during : Step → Bool → Bool
in_doubt_during step.Commit in_doubt = true
in_doubt_during _ in_doubt = in_doubt

-- Each image during a step has the durable content from before or, in doubt, the live one.
abbrev pub StandDuring : {D : Type 0} → disk.Ghosts D → Step → (old new : ShownStore D) → Type 0
StandDuring g step old new = StandMeanwhile g old new (in_doubt_during step old.in_doubt)

-- how many calls of devices have failed after a step; n had failed before it
abbrev pub fails_by : StepResult → ℕ → ℕ
fails_by (told.Offered result) n = failed_after result n
fails_by (told.Committed result) n = failed_after result n
fails_by (told.Frozen result) n = failed_by result + n
fails_by (told.Taken result) n = n
fails_by (told.Put result) n = failed_by result + n
fails_by (told.Sealed result) n = failed_by result + n
fails_by (told.Prepared result) n = failed_by result + n
fails_by (told.Written result) n = failed_by result + n
fails_by (told.Opened result) n = failed_by result + n
fails_by (told.Evicted result) n = failed_by result + n
fails_by (told.Loaded result) n = failed_by result + n
fails_by (told.Retired result) n = failed_after result n
