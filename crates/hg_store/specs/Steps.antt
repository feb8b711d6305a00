-- What one step does and answers.
use Rattle.std.specs.Prelude.{◌≡◌, ◌≢◌, ◌⊎◌, ◌++◌, ◌+◌, ◌<◌, ℕ, MatchBool, List, [], ◌∷◌, length, Bool, true, false, Some, Ok, Err, Result, OnOk, nat_le, cond}
use Rattle.hg_model.specs.declared.event.Named.{Named}
use Rattle.hg_model.specs.declared.verdict.Verdict.{Verdict}
use Rattle.hg_model.specs.declared.verdict.Verdict.TheVariants.{Accept, Duplicate as IsDuplicate, Refuse}
use Rattle.hg_model.specs.declared.verdict.Refusal.{Refusal}
use Rattle.hg_model.specs.declared.verdict.Refusal.TheVariants as refusal
use Rattle.hg_model.specs.Contents.{Content}
use Rattle.hg_model.specs.Verdicts.{verdict, standing_of}
use Rattle.hg_model.specs.Change.{followed}
use Rattle.hg_detect.specs.Answering.{done}
use Rattle.hg_detect.specs.Making.{AsksBy, sets_asked}
use Rattle.hg_detect.specs.declared.detector.Answer.{Answer}
use Rattle.hg_detect.specs.declared.detector.Answer.TheVariants.{Accepted, Duplicate}
use Rattle.hg_disk.specs.declared.disk.Disk as disk
use Rattle.hg_pool.specs.Answers.{IsFull}
use Rattle.hg_pool.specs.Maps as pools
use Rattle.hg_checkpoint.specs.declared.cause.Cause.{Cause}
use Rattle.hg_checkpoint.specs.declared.phase.Phase.{Phase}
use Rattle.hg_store.specs.Answers.{IfRefused, IfWrongPhase, IsAllowed, LeavesOrBreaks}
use Rattle.hg_store.specs.Shown.{ShownStore, Turns, after_retirement, current, is_retirable, live, other, words}
use Rattle.hg_store.specs.declared.steps.StepFault.{StepFault}
use Rattle.hg_gate.specs.declared.based.TheConstants.{MAX_BASE}
use Rattle.hg_store.specs.declared.store.TheConstants.{MOST_PENDING}

-- the refusals of an event that the rules accept: no room for its pages or its sets, no memory, or a page that can't be read
-- or written
abbrev pub IsOfRoom : Refusal → Type 0
IsOfRoom r = (r ≡ refusal.FullSets) ⊎ ((r ≡ refusal.OutOfMemory) ⊎ ((r ≡ refusal.FullSlots) ⊎ ((r ≡ refusal.Damaged) ⊎ (r ≡ refusal.DeviceFault))))

-- What an offer may be answered by its verdict, with this many events pending.
abbrev pub ByVerdict : Verdict → ℕ → Result Answer Refusal → Type 0
ByVerdict (IsDuplicate last) pending result = result ≡ Ok (Duplicate last)
ByVerdict (Refuse refusal) pending result = result ≡ Err refusal
ByVerdict Accept pending result = cond (nat_le MOST_PENDING pending) (result ≡ Err refusal.FullPending) ((result ≡ Ok Accepted) ⊎ ((r : Refusal) × (result ≡ Err r) × IsOfRoom r))

-- A broken store answers Broken, any other one by the verdict.
abbrev pub OfferAnswers : Content → Bool → ℕ → Named → Result Answer Refusal → Type 0
OfferAnswers c is_broken pending n result = cond is_broken (result ≡ Err refusal.Broken) (ByVerdict (verdict (standing_of c) n) pending result)

-- The answer of the rules alone, where no further event may wait for a commit. One that they accept is refused: as many
-- events as may wait, or the journals have the last number, which over honest devices the rules say themselves.
abbrev pub IsRefusedWhenFull : Verdict → ℕ → Result Answer Refusal → Type 0
IsRefusedWhenFull (IsDuplicate last) pending result = result ≡ Ok (Duplicate last)
IsRefusedWhenFull (Refuse refusal) pending result = result ≡ Err refusal
IsRefusedWhenFull Accept pending result = result ≡ cond (nat_le MOST_PENDING pending) (Err refusal.FullPending) (Err refusal.Damaged)

abbrev pub IsAnsweredWhenFull : {D : Type 0} → disk.Ghosts D → ShownStore D → Named → Result Answer Refusal → Type 0
IsAnsweredWhenFull g s n result = IsRefusedWhenFull (verdict (standing_of (live g s)) n) (length s.pending) result

-- One more event may wait for a commit: fewer than may wait do, and the journals have a number for it.
pub record HasRoom {D : Type 0} (s : ShownStore D) : Type 0 where
  pub few : length s.pending < MOST_PENDING
  pub fits : s.turns.last + length s.pending < MAX_BASE

-- the event of an offer that was answered Accepted
abbrev pub if_accepted : Named → Result Answer Refusal → List Named
if_accepted n (Ok Accepted) = n ∷ []
if_accepted n (Ok (Duplicate last)) = []
if_accepted n (Err refusal) = []

-- The store takes the event: the store works, the rules accept the event, and there is room for one more pending event.
pub record IsTaken {D : Type 0} (g : disk.Ghosts D) (s : ShownStore D) (n : Named) : Type 0 where
  pub works : s.is_broken ≡ false
  pub accepted : verdict (standing_of (live g s)) n ≡ Accept
  pub room : length s.pending < MOST_PENDING

-- The journals stay the same, and so does what they keep.
pub record SameJournals {D : Type 0} (old new : ShownStore D) : Type 0 where
  pub journal0 : new.devices.journal0 ≡ old.devices.journal0
  pub journal1 : new.devices.journal1 ≡ old.devices.journal1
  pub turns : new.turns ≡ old.turns

-- Only the slots, the detector, the pending events and whether the store is broken may have changed.
pub record SameBut {D : Type 0} (old new : ShownStore D) : Type 0 where
  pub journals : SameJournals old new
  pub counted : new.counted ≡ old.counted
  pub root0 : new.devices.root0 ≡ old.devices.root0
  pub root1 : new.devices.root1 ≡ old.devices.root1
  pub committed : new.committed ≡ old.committed
  pub frozen : new.frozen ≡ old.frozen
  pub durable : new.durable ≡ old.durable
  pub progress : new.progress ≡ old.progress
  pub in_doubt : new.in_doubt ≡ old.in_doubt

-- An accepted event joins the pending ones. A store that does not take the event stays as it is. Only a failed device call
-- breaks it, and only one that breaks the file of slots: no failed read. No slot is free where FullSlots is told.
pub record OfferDone {D : Type 0} (g : disk.Ghosts D) (old new : ShownStore D) (n : Named) (result : Result Answer Refusal) : Type 0 where
  pub answer : OfferAnswers (live g old) old.is_broken (length old.pending) n result
  pub pending : new.pending ≡ old.pending ++ if_accepted n result
  pub same : SameBut old new
  pub works : OnOk result (new.is_broken ≡ false)
  pub untouched : ¬ IsTaken g old n → new ≡ old
  pub breaks : (result ≡ Err refusal.DeviceFault → ⊥) → new.is_broken ≡ old.is_broken
  pub by_file : IsTaken g old n → new.is_broken ≡ pools.is_broken (words new)
  pub full : IsTaken g old n → result ≡ Err refusal.FullSlots → IsFull (words new)

-- Over honest devices: an accepted event joins the live content, and its sets join the table. Without one the live content
-- stays. No page is damaged.
pub record ContentOffered {D : Type 0} (g : disk.Ghosts D) (old new : ShownStore D) (n : Named) (result : Result Answer Refusal) : Type 0 where
  pub leads : followed (live g old) (if_accepted n result) ≡ Some (live g new)
  pub sets : IsTaken g old n → AsksBy old.detector.sets (sets_asked (live g old) n.event) (done result) new.detector.sets
  pub undamaged : IsTaken g old n → result ≢ Err refusal.Damaged

-- After an Ok nothing is pending, and the count is that of all accepted events; after a failure the store is broken.
pub record IsCommitted {D : Type 0} (g : disk.Ghosts D) (old new : ShownStore D) (count : ℕ) : Type 0 where
  pub worked : old.is_broken ≡ false
  pub answer : count ≡ (live g old).events
  pub durable : new.durable ≡ count
  pub committed : new.committed ≡ old.detector
  pub pending : new.pending ≡ []
  pub last : new.turns.last ≡ old.turns.last + length old.pending
  pub works : new.is_broken ≡ false
  pub certain : new.in_doubt ≡ old.in_doubt

pub record IsNotCommitted {D : Type 0} (old new : ShownStore D) (r : Refusal) : Type 0 where
  pub answer : r ≡ cond old.is_broken refusal.Broken refusal.DeviceFault
  pub durable : new.durable ≡ old.durable
  pub committed : new.committed ≡ old.committed
  pub pending : new.pending ≡ old.pending
  pub broken : new.is_broken ≡ true
  pub doubt : new.in_doubt ≡ cond old.is_broken old.in_doubt true

abbrev pub ByCommit : {D : Type 0} → disk.Ghosts D → (old new : ShownStore D) → Result ℕ Refusal → Type 0
ByCommit g old new (Ok count) = IsCommitted g old new count
ByCommit g old new (Err refusal) = IsNotCommitted old new refusal

-- The journals begin where they began, and the same one is the current one.
pub record SameTurn (old new : Turns) : Type 0 where
  pub base : new.base ≡ old.base
  pub current_base : new.current_base ≡ old.current_base
  pub has_spare : new.has_spare ≡ old.has_spare
  pub is_turned : new.is_turned ≡ old.is_turned

-- A commit changes no device but the current journal, and none at all if no event is pending.
pub record CommitDone {D : Type 0} (g : disk.Ghosts D) (old new : ShownStore D) (result : Result ℕ Refusal) : Type 0 where
  pub answer : ByCommit g old new result
  pub detector : new.detector ≡ old.detector
  pub frozen : new.frozen ≡ old.frozen
  pub progress : new.progress ≡ old.progress
  pub counted : new.counted ≡ old.counted
  pub turn : SameTurn old.turns new.turns
  pub other : other new ≡ other old
  pub slots : new.devices.slots ≡ old.devices.slots
  pub root0 : new.devices.root0 ≡ old.devices.root0
  pub root1 : new.devices.root1 ≡ old.devices.root1
  pub quiet : old.pending ≡ [] → new.devices ≡ old.devices
  pub still : old.is_broken ≡ true → new ≡ old

-- Only the journals, with what they keep, and whether the store is broken may have changed.
pub record SameButJournals {D : Type 0} (old new : ShownStore D) : Type 0 where
  pub detector : new.detector ≡ old.detector
  pub committed : new.committed ≡ old.committed
  pub frozen : new.frozen ≡ old.frozen
  pub pending : new.pending ≡ old.pending
  pub durable : new.durable ≡ old.durable
  pub progress : new.progress ≡ old.progress
  pub counted : new.counted ≡ old.counted
  pub in_doubt : new.in_doubt ≡ old.in_doubt
  pub slots : new.devices.slots ≡ old.devices.slots
  pub root0 : new.devices.root0 ≡ old.devices.root0
  pub root1 : new.devices.root1 ≡ old.devices.root1

-- After an Ok the older journal is closed, if that is lawful; and else the store is as it was.
pub record IsRetired {D : Type 0} (old new : ShownStore D) (retired : Bool) : Type 0 where
  pub worked : old.is_broken ≡ false
  pub works : new.is_broken ≡ false
  pub answer : retired ≡ is_retirable old
  pub turns : MatchBool retired (new.turns ≡ after_retirement old.turns) (new ≡ old)

-- After a failure the store is broken, and one that was broken stays as it is.
pub record IsNotRetired {D : Type 0} (old new : ShownStore D) (r : Refusal) : Type 0 where
  pub answer : r ≡ cond old.is_broken refusal.Broken refusal.DeviceFault
  pub broken : new.is_broken ≡ true

abbrev pub ByRetire : {D : Type 0} → (old new : ShownStore D) → Result Bool Refusal → Type 0
ByRetire old new (Ok retired) = IsRetired old new retired
ByRetire old new (Err refusal) = IsNotRetired old new refusal

-- The older journal is closed, and no other device is called. The events that the newest open root counts are given up, and
-- nothing else changes, be a checkpoint in progress or not.
pub record RetireDone {D : Type 0} (old new : ShownStore D) (result : Result Bool Refusal) : Type 0 where
  pub answer : ByRetire old new result
  pub same : SameButJournals old new
  pub current : current new ≡ current old
  pub turn : new.turns.is_turned ≡ old.turns.is_turned
  pub still : old.is_broken ≡ true → new ≡ old

-- A step of a checkpoint that is lawful only if `Lawful` holds, is then refused for these causes alone, and leads to the phase
-- `to`. It leaves the events as they are. A refusal leaves the whole store as it is, or breaks it.
pub record CheckpointDone {D T : Type 0} (old new : ShownStore D) (Lawful : Type 0) (Causes : Cause → Type 0) (to : Phase) (result : Result T StepFault) : Type 0 where
  pub allowed : IsAllowed old Lawful Causes result
  pub phase : OnOk result (new.progress.phase ≡ to)
  pub works : OnOk result (new.is_broken ≡ false)
  pub unchanged : IfWrongPhase (new ≡ old) result
  pub refused : IfRefused (LeavesOrBreaks old new) result
  pub pending : new.pending ≡ old.pending
  pub committed : new.committed ≡ old.committed
  pub durable : new.durable ≡ old.durable
  pub in_doubt : new.in_doubt ≡ old.in_doubt
