-- A step of a checkpoint that was not made.
use Rattle.std.proofs.Common.{◌≡◌, ◌⊎◌, ◌∙◌, inl, inr, ⊎_elim, ℕ, Bool, true, false, Err, refl, sym, ap, subst}
use Rattle.std.specs.Prelude.{IsTrue}
use Rattle.std.proofs.lemmas.Bool.{true≢false}
use Rattle.hg_disk.specs.declared.disk.Disk as disk
use Rattle.hg_pool.specs.Shown as pool
use Rattle.hg_pool.specs.Maps as pools
use Rattle.hg_checkpoint.specs.Calls.{IsOfDevice, IsOfSealing, IsOfWriting}
use Rattle.hg_checkpoint.specs.Phases as checkpoints
use Rattle.hg_checkpoint.specs.declared.cause.Cause.{Cause}
use Rattle.hg_checkpoint.specs.declared.cause.Cause.TheVariants as cause
use Rattle.hg_checkpoint.specs.declared.checkpointer.Checkpointer.{Checkpointer}
use Rattle.hg_checkpoint.specs.declared.phase.CheckpointFault.{CheckpointFault}
use Rattle.hg_checkpoint.specs.declared.phase.CheckpointFault.TheVariants.{Refused, WrongPhase}
use Rattle.hg_checkpoint.specs.declared.phase.Phase.{Phase}
use Rattle.hg_store.specs.Answers.{IsAllowed, LeavesOrBreaks, breaks, breaks_by, failed_by, step_fault}
use Rattle.hg_store.specs.Kept.{IsSound, Parts, shown_of}
use Rattle.hg_store.specs.Shown.{ShownStore, phase_of}
use Rattle.hg_store.specs.Steps.{CheckpointDone}
use Rattle.hg_store.specs.declared.steps.StepFault.{StepFault}
use Rattle.hg_store.specs.declared.steps.StorePhase.{StorePhase}
use Rattle.hg_store.proofs.Staying.{over}

-- A device failed, or memory was refused and `Same` holds.
abbrev pub IsOfStep : Type 0 → Cause → Type 0
IsOfStep Same r = (r ≡ cause.DeviceFault) ⊎ ((r ≡ cause.OutOfMemory) × Same)

-- the refusals of a call that takes no memory, by a checkpointer that works
pub of_device : (U Same Lawful : Type 0) (b : Bool) (at : Phase) (fault : CheckpointFault) → b ≡ false → checkpoints.IsAllowed {T = U} b at Lawful IsOfDevice (Err fault) → checkpoints.IfRefused {T = U} (IsOfStep Same) (Err fault)
of_device U Same Lawful b at (WrongPhase p) works is = tt
of_device U Same Lawful b at (Refused r) works (inl broken) = absurd (true≢false (sym broken.0 ∙ works))
of_device U Same Lawful b at (Refused r) works (inr may) = inl may.2

-- those of a seal, of a pool that works
pub of_sealing : {D : Type 0} (U Lawful : Type 0) (p : pool.ShownPool D) (b : Bool) (at : Phase) (fault : CheckpointFault) → b ≡ false → pools.is_broken p ≡ false
    → checkpoints.IsAllowed {T = U} b at Lawful (IsOfSealing p) (Err fault) → checkpoints.IsAllowed {T = U} b at Lawful IsOfDevice (Err fault)
of_sealing U Lawful p b at (WrongPhase q) works file is = is
of_sealing U Lawful p b at (Refused r) works file (inl broken) = inl broken
of_sealing U Lawful p b at (Refused r) works file (inr may) = inr (may.0, may.1, ⊎_elim (λ device. device) (λ broken. absurd (true≢false (sym (subst IsTrue file broken.1)))) may.2)

-- those of a call that takes memory
pub of_writing : (U Same Lawful : Type 0) (b : Bool) (at : Phase) (fault : CheckpointFault) → b ≡ false → checkpoints.IsAllowed {T = U} b at Lawful IsOfWriting (Err fault)
    → checkpoints.IfRefused {T = U} (λ r. r ≡ cause.OutOfMemory → Same) (Err fault) → checkpoints.IfRefused {T = U} (IsOfStep Same) (Err fault)
of_writing U Same Lawful b at (WrongPhase p) works is memory = tt
of_writing U Same Lawful b at (Refused r) works (inl broken) memory = absurd (true≢false (sym broken.0 ∙ works))
of_writing U Same Lawful b at (Refused r) works (inr may) memory = ⊎_elim (λ none. inr (none, memory none)) (λ device. inl device) may.2

pub if_wrong : (U : Type 0) {P Q : Type 0} (fault : CheckpointFault) → (P → Q) → checkpoints.IfWrongPhase {T = U} P (Err fault) → checkpoints.IfWrongPhase {T = U} Q (Err fault)
if_wrong U (WrongPhase p) so is = so is
if_wrong U (Refused r) so is = tt

pub if_refused : (U : Type 0) {P Q : Cause → Type 0} (fault : CheckpointFault) → ((r : Cause) → P r → Q r) → checkpoints.IfRefused {T = U} P (Err fault) → checkpoints.IfRefused {T = U} Q (Err fault)
if_refused U (WrongPhase p) so is = tt
if_refused U (Refused r) so is = so r is

-- Either nothing changed, or the phase allowed the call.
pub either : (U : Type 0) {P Same Lawful : Type 0} (Causes : Cause → Type 0) (b : Bool) (at : Phase) (fault : CheckpointFault) → b ≡ false → checkpoints.IfWrongPhase {T = U} Same (Err fault)
    → checkpoints.IsAllowed {T = U} b at Lawful Causes (Err fault) → (Same → P) → (Lawful → P) → P
either U Causes b at (WrongPhase p) works same allowed still by = still same
either U Causes b at (Refused r) works same (inl broken) still by = absurd (true≢false (sym broken.0 ∙ works))
either U Causes b at (Refused r) works same (inr may) still by = by may.1

-- as many calls failed as the checkpointer tells
pub fails_as : (T U : Type 0) (p : StorePhase) (fault : CheckpointFault) (f : StepFault) → f ≡ step_fault p fault → failed_by {T = T} (Err f) ≡ checkpoints.failed_calls {T = U} (Err fault)
fails_as T U p (WrongPhase at) f is = ap (λ (x : StepFault). failed_by {T = T} (Err x)) is
fails_as T U p (Refused r) f is = ap (λ (x : StepFault). failed_by {T = T} (Err x)) is

memory_is_no_device : cause.OutOfMemory ≡ cause.DeviceFault → ⊥
memory_is_no_device e = absurd (cc)

allowed : (T U : Type 0) {D : Type 0} (s : ShownStore D) (b : Bool) (at : Phase) (Lawful : Type 0) (Causes : Cause → Type 0) (fault : CheckpointFault) → s.is_broken ≡ false → b ≡ false
    → checkpoints.IsAllowed {T = U} b at Lawful Causes (Err fault) → IsAllowed {T = T} s Lawful Causes (Err (step_fault (phase_of s) fault))
allowed T U s b at Lawful Causes (WrongPhase p) works own is = (works, is.1, refl)
allowed T U s b at Lawful Causes (Refused r) works own (inl broken) = absurd (true≢false (sym broken.0 ∙ own))
allowed T U s b at Lawful Causes (Refused r) works own (inr may) = inr (works, may.1, may.2)

module _ {D : Type 0} (g : disk.Ghosts D) (s : Parts D g) (c : Checkpointer D g) (w : pool.ShownPool D) where
  abbrev pub Same : Type 0
  Same = (c ≡ s.checkpointer) × (w ≡ s.detector.words)

  abbrev by_parts : Checkpointer D g → pool.ShownPool D → Bool → Parts D g
  by_parts x y b = record {
    journals = s.journals;
    detector = over g s.detector y;
    checkpointer = x;
    committed = s.committed;
    frozen = s.frozen;
    pending = s.pending;
    durable = s.durable;
    counted = s.counted;
    counting = s.counting;
    is_broken = b;
    in_doubt = s.in_doubt;
  }

  -- the parts after a call of the checkpointer, which was lent the pool
  abbrev pub called : Bool → Parts D g
  called b = by_parts c w b

  still : (b : Bool) → s.is_broken ≡ false → b ≡ false → Same → called b ≡ s
  still b works is same =
      subst (λ (x : Checkpointer D g). by_parts x w b ≡ s) (sym same.0)
      (subst (λ (y : pool.ShownPool D). by_parts s.checkpointer y b ≡ s) (sym same.1)
      (subst (λ (a : Bool). by_parts s.checkpointer s.detector.words a ≡ s) (works ∙ sym is) refl))

  -- the parts are sound, if they are when a device failed
  pub sound_by : (U : Type 0) (room : ℕ) → IsSound g s room → (Lawful : Type 0) (Causes : Cause → Type 0) (at : Phase) (fault : CheckpointFault) (b : Bool) → s.is_broken ≡ false → b ≡ breaks_by fault
      → checkpoints.IsAllowed {T = U} s.checkpointer.is_broken at Lawful Causes (Err fault) → checkpoints.IfWrongPhase {T = U} Same (Err fault) → checkpoints.IfRefused {T = U} (IsOfStep Same) (Err fault)
      → (Lawful → IsSound g (called true) room) → IsSound g (called b) room
  sound_by U room sound Lawful Causes at (WrongPhase p) b works is may same of failed = subst (λ (p : Parts D g). IsSound g p room) (sym (still b works is same)) sound
  sound_by U room sound Lawful Causes at (Refused r) b works is (inl broken) same of failed = absurd (true≢false (sym broken.0 ∙ sound.checkpointer works))
  sound_by U room sound Lawful Causes at (Refused r) b works is (inr may) same (inl device) failed = subst (λ (b : Bool). IsSound g (called b) room) (sym (is ∙ ap breaks device)) (failed may.1)
  sound_by U room sound Lawful Causes at (Refused r) b works is (inr may) same (inr none) failed = subst (λ (p : Parts D g). IsSound g p room) (sym (still b works (is ∙ ap breaks none.0) none.1)) sound

  refused_by : (r : Cause) (b : Bool) → s.is_broken ≡ false → b ≡ breaks r → IsOfStep Same r → LeavesOrBreaks (shown_of g s) (shown_of g (called b)) r
  refused_by r b works is (inl device) = (λ _. is ∙ ap breaks device, λ other. absurd (other device))
  refused_by r b works is (inr none) = (
    λ device. absurd (memory_is_no_device (sym none.0 ∙ device)),
    λ _. ap (λ (p : Parts D g). shown_of g p) (still b works (is ∙ ap breaks none.0) none.1),
  )

  done_by : (T U : Type 0) (Lawful : Type 0) (Causes : Cause → Type 0) (to at : Phase) (fault : CheckpointFault) (b : Bool) → s.is_broken ≡ false → s.checkpointer.is_broken ≡ false → b ≡ breaks_by fault
      → checkpoints.IsAllowed {T = U} s.checkpointer.is_broken at Lawful Causes (Err fault) → checkpoints.IfWrongPhase {T = U} Same (Err fault) → checkpoints.IfRefused {T = U} (IsOfStep Same) (Err fault)
      → CheckpointDone {T = T} (shown_of g s) (shown_of g (called b)) Lawful Causes to (Err (step_fault (phase_of (shown_of g s)) fault))
  done_by T U Lawful Causes to at (WrongPhase p) b works own is may same of = record {
    allowed = allowed T U (shown_of g s) s.checkpointer.is_broken at Lawful Causes (WrongPhase p) works own may;
    phase = tt;
    works = tt;
    unchanged = ap (λ (p : Parts D g). shown_of g p) (still b works is same);
    refused = tt;
    pending = refl;
    committed = refl;
    durable = refl;
    in_doubt = refl;
  }
  done_by T U Lawful Causes to at (Refused r) b works own is may same of = record {
    allowed = allowed T U (shown_of g s) s.checkpointer.is_broken at Lawful Causes (Refused r) works own may;
    phase = tt;
    works = tt;
    unchanged = tt;
    refused = refused_by r b works is of;
    pending = refl;
    committed = refl;
    durable = refl;
    in_doubt = refl;
  }

  -- what the step answers and leaves
  pub step_not_made : (T U : Type 0) (room : ℕ) → IsSound g s room → (Lawful : Type 0) (Causes : Cause → Type 0) (to at : Phase) (fault : CheckpointFault) (f : StepFault) (p : StorePhase) (b : Bool) → s.is_broken ≡ false
      → f ≡ step_fault p fault → p ≡ phase_of (shown_of g s) → b ≡ breaks_by fault
      → checkpoints.IsAllowed {T = U} s.checkpointer.is_broken at Lawful Causes (Err fault) → checkpoints.IfWrongPhase {T = U} Same (Err fault) → checkpoints.IfRefused {T = U} (IsOfStep Same) (Err fault)
      → CheckpointDone {T = T} (shown_of g s) (shown_of g (called b)) Lawful Causes to (Err f)
  step_not_made T U room sound Lawful Causes to at fault f p b works told here is may same of =
      subst (λ (x : StepFault). CheckpointDone {T = T} (shown_of g s) (shown_of g (called b)) Lawful Causes to (Err x)) (sym (told ∙ ap (λ (x : StorePhase). step_fault x fault) here))
      (done_by T U Lawful Causes to at fault b works (sound.checkpointer works) is may same of)
