-- Which answers the steps of a checkpoint give.
use Rattle.std.specs.Prelude.{◌≡◌, ◌≢◌, ◌⊎◌, ◌<◌, ◌≤◌, ℕ, Bool, true, false, Result, Ok, Err}
use Rattle.hg_checkpoint.specs.Phases as checkpoints
use Rattle.hg_checkpoint.specs.declared.cause.Cause.{Cause}
use Rattle.hg_checkpoint.specs.declared.cause.Cause.TheVariants as cause
use Rattle.hg_checkpoint.specs.declared.phase.CheckpointFault.{CheckpointFault}
use Rattle.hg_checkpoint.specs.declared.phase.CheckpointFault.TheVariants as checkpoint
use Rattle.hg_checkpoint.specs.declared.fault.HeadFault.{HeadFault}
use Rattle.hg_checkpoint.specs.declared.fault.HeadFault.TheVariants as head
use Rattle.hg_pool.specs.Picking.{LacksSlots}
use Rattle.hg_root.specs.declared.root.TheConstants.{MOST_CHECKPOINTS}
use Rattle.hg_store.specs.Shown.{ShownStore, phase_of, words}
use Rattle.hg_store.specs.declared.steps.StepFault.{StepFault}
use Rattle.hg_store.specs.declared.steps.StepFault.TheVariants.{Refused, WrongPhase}
use Rattle.hg_store.specs.declared.steps.StorePhase.{StorePhase}

-- the fault of a step that could not make the head of a root
abbrev pub of_head : HeadFault → StepFault
of_head head.Damaged = Refused cause.Damaged
of_head head.OutOfMemory = Refused cause.OutOfMemory

-- why a step was not made, by the fault of the checkpointer of a store in this phase
abbrev pub step_fault : StorePhase → CheckpointFault → StepFault
step_fault phase (checkpoint.WrongPhase p) = WrongPhase phase
step_fault phase (checkpoint.Refused r) = Refused r

-- whether a step that was refused for this cause breaks the store: a device failed
abbrev pub breaks : Cause → Bool
breaks cause.Broken = true
breaks cause.Damaged = false
breaks cause.DeviceFault = true
breaks cause.FullEvents = false
breaks cause.FullSlots = false
breaks cause.OutOfMemory = false

-- whether this fault of the checkpointer breaks the store
abbrev pub breaks_by : CheckpointFault → Bool
breaks_by (checkpoint.WrongPhase p) = false
breaks_by (checkpoint.Refused r) = breaks r

-- The answers of a step that is lawful only if `Lawful` holds: a broken store answers Broken, any other one WrongPhase with
-- the phase exactly if the step is not lawful. A lawful one is refused for one of these causes alone.
abbrev pub IsAllowed : {D T : Type 0} → ShownStore D → Type 0 → (Cause → Type 0) → Result T StepFault → Type 0
IsAllowed s Lawful Causes (Ok value) = (s.is_broken ≡ false) × Lawful
IsAllowed s Lawful Causes (Err (WrongPhase p)) = (s.is_broken ≡ false) × (¬ Lawful) × (p ≡ phase_of s)
IsAllowed s Lawful Causes (Err (Refused r)) = ((s.is_broken ≡ true) × (r ≡ cause.Broken)) ⊎ ((s.is_broken ≡ false) × Lawful × Causes r)

-- The causes of a refused freeze: the newest root has the last number; else memory was refused, or fewer slots are free than
-- pages were changed, or a part of the detector has no spelling, or a device call of the turn failed.
abbrev pub IsOfFreezing : {D : Type 0} → ShownStore D → Cause → Type 0
IsOfFreezing s cause.FullEvents = MOST_CHECKPOINTS ≤ s.progress.number
IsOfFreezing s cause.OutOfMemory = s.progress.number < MOST_CHECKPOINTS
IsOfFreezing s cause.FullSlots = (s.progress.number < MOST_CHECKPOINTS) × LacksSlots (words s)
IsOfFreezing s cause.Damaged = s.progress.number < MOST_CHECKPOINTS
IsOfFreezing s cause.DeviceFault = s.progress.number < MOST_CHECKPOINTS
IsOfFreezing s _ = ⊥

-- A failed device call breaks the store. Any other refusal leaves it as it is.
abbrev pub LeavesOrBreaks : {D : Type 0} → (old new : ShownStore D) → Cause → Type 0
LeavesOrBreaks old new r = (r ≡ cause.DeviceFault → new.is_broken ≡ true) × (r ≢ cause.DeviceFault → new ≡ old)

-- P holds after a WrongPhase.
abbrev pub IfWrongPhase : {T : Type 0} → Type 0 → Result T StepFault → Type 0
IfWrongPhase P (Ok value) = Unit {0}
IfWrongPhase P (Err (WrongPhase p)) = P
IfWrongPhase P (Err (Refused r)) = Unit {0}

-- P holds of the cause of a refusal.
abbrev pub IfRefused : {T : Type 0} → (Cause → Type 0) → Result T StepFault → Type 0
IfRefused P (Ok value) = Unit {0}
IfRefused P (Err (WrongPhase p)) = Unit {0}
IfRefused P (Err (Refused r)) = P r

-- how many device calls failed in a step of a checkpoint with this answer
abbrev pub failed_by : {T : Type 0} → Result T StepFault → ℕ
failed_by (Ok value) = 0
failed_by (Err (WrongPhase p)) = 0
failed_by (Err (Refused r)) = checkpoints.failed_in r
