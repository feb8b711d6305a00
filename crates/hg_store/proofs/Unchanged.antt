-- A step of a checkpoint that changed nothing.
use Rattle.std.proofs.Common.{◌≡◌, ℕ, Err, sym, ap, subst}
use Rattle.std.specs.Prelude.{◌≢◌}
use Rattle.hg_disk.specs.declared.disk.Disk as disk
use Rattle.hg_pool.specs.Shown as pool
use Rattle.hg_checkpoint.specs.declared.checkpointer.Checkpointer.{Checkpointer}
use Rattle.hg_checkpoint.specs.declared.cause.Cause.{Cause}
use Rattle.hg_checkpoint.specs.declared.cause.Cause.TheVariants.{DeviceFault}
use Rattle.hg_checkpoint.specs.declared.phase.Phase.{Phase}
use Rattle.hg_store.specs.Answers.{IfRefused, IsAllowed}
use Rattle.hg_store.specs.Kept.{IsSound, Parts, shown_of}
use Rattle.hg_store.specs.Shown.{ShownStore}
use Rattle.hg_store.specs.Steps.{CheckpointDone}
use Rattle.hg_store.specs.declared.steps.StepFault.{StepFault}
use Rattle.hg_store.specs.declared.steps.StepFault.TheVariants.{Refused, WrongPhase}
use Rattle.hg_store.proofs.Staying.{over}

module _ {D : Type 0} (g : disk.Ghosts D) where
  -- the parts with another checkpointer and another pool
  abbrev pub called_with : Parts D g → Checkpointer D g → pool.ShownPool D → Parts D g
  called_with s c w = record {
    journals = s.journals;
    detector = over g s.detector w;
    checkpointer = c;
    committed = s.committed;
    frozen = s.frozen;
    pending = s.pending;
    durable = s.durable;
    counted = s.counted;
    counting = s.counting;
    is_broken = s.is_broken;
    in_doubt = s.in_doubt;
  }

  -- where both are equal to what they were
  module _ (s : Parts D g) (c : Checkpointer D g) (w : pool.ShownPool D) (same : c ≡ s.checkpointer) (stays : w ≡ s.detector.words) (room : ℕ) (sound : IsSound g s room) where
    pub same_sound : IsSound g (called_with s c w) room
    same_sound =
        subst (λ (x : Checkpointer D g). IsSound g (called_with s x w) room) (sym same) (subst (λ (p : pool.ShownPool D). IsSound g (called_with s s.checkpointer p) room) (sym stays) sound)

    pub same_shown : (old : ShownStore D) → shown_of g s ≡ old → shown_of g (called_with s c w) ≡ old
    same_shown old is =
        subst (λ (x : Checkpointer D g). shown_of g (called_with s x w) ≡ old) (sym same) (subst (λ (p : pool.ShownPool D). shown_of g (called_with s s.checkpointer p) ≡ old) (sym stays) is)

pub nothing_done : {D T : Type 0} (old new : ShownStore D) (Lawful : Type 0) (Causes : Cause → Type 0) (to : Phase) (fault : StepFault) → new ≡ old → IsAllowed {T = T} old Lawful Causes (Err fault)
    → IfRefused {T = T} (λ r. r ≢ DeviceFault) (Err fault) → CheckpointDone {T = T} old new Lawful Causes to (Err fault)
nothing_done old new Lawful Causes to (WrongPhase p) same allowed quiet = record {
  allowed = allowed;
  phase = tt;
  works = tt;
  unchanged = same;
  refused = tt;
  pending = ap (λ s. s.pending) same;
  committed = ap (λ s. s.committed) same;
  durable = ap (λ s. s.durable) same;
  in_doubt = ap (λ s. s.in_doubt) same;
}
nothing_done old new Lawful Causes to (Refused r) same allowed quiet = record {
  allowed = allowed;
  phase = tt;
  works = tt;
  unchanged = tt;
  refused = (λ is. absurd (quiet is), λ other. same);
  pending = ap (λ s. s.pending) same;
  committed = ap (λ s. s.committed) same;
  durable = ap (λ s. s.durable) same;
  in_doubt = ap (λ s. s.in_doubt) same;
}
