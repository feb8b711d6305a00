-- Which answers the phases allow.
use Rattle.std.specs.Prelude.{◌≡◌, ◌⊎◌, ℕ, Bool, true, false, Result, Ok, Err}
use Rattle.hg_checkpoint.specs.declared.cause.Cause.{Cause}
use Rattle.hg_checkpoint.specs.declared.cause.Cause.TheVariants as cause
use Rattle.hg_checkpoint.specs.declared.phase.Phase.{Phase}
use Rattle.hg_checkpoint.specs.declared.phase.CheckpointFault.{CheckpointFault}
use Rattle.hg_checkpoint.specs.declared.phase.CheckpointFault.TheVariants.{Refused, WrongPhase}

-- The answers of a call that is allowed only if `Allowed` holds: Broken if a device call failed before it, else WrongPhase
-- with the phase exactly if it is not allowed. An allowed one is refused for one of these causes alone.
abbrev pub IsAllowed : {T : Type 0} → Bool → Phase → Type 0 → (Cause → Type 0) → Result T CheckpointFault → Type 0
IsAllowed broken phase Allowed Causes (Ok value) = (broken ≡ false) × Allowed
IsAllowed broken phase Allowed Causes (Err (WrongPhase p)) = (broken ≡ false) × (¬ Allowed) × (p ≡ phase)
IsAllowed broken phase Allowed Causes (Err (Refused r)) = ((broken ≡ true) × (r ≡ cause.Broken)) ⊎ ((broken ≡ false) × Allowed × Causes r)

-- no refusal
abbrev pub Never : Cause → Type 0
Never cause = ⊥

-- P holds after a WrongPhase.
abbrev pub IfWrongPhase : {T : Type 0} → Type 0 → Result T CheckpointFault → Type 0
IfWrongPhase P (Ok value) = Unit {0}
IfWrongPhase P (Err (WrongPhase p)) = P
IfWrongPhase P (Err (Refused r)) = Unit {0}

-- If a device call failed in the call, it is broken from then on.
abbrev pub BreaksBy : {T : Type 0} → Bool → Result T CheckpointFault → Type 0
BreaksBy broken (Ok value) = Unit {0}
BreaksBy broken (Err (WrongPhase p)) = Unit {0}
BreaksBy broken (Err (Refused r)) = r ≡ cause.DeviceFault → broken ≡ true

-- how many device calls failed in a call with this cause
abbrev pub failed_in : Cause → ℕ
failed_in cause.DeviceFault = 1
failed_in _ = 0

abbrev pub failed_calls : {T : Type 0} → Result T CheckpointFault → ℕ
failed_calls (Ok value) = 0
failed_calls (Err (WrongPhase p)) = 0
failed_calls (Err (Refused r)) = failed_in r

-- P holds of the cause of a refusal.
abbrev pub IfRefused : {T : Type 0} → (Cause → Type 0) → Result T CheckpointFault → Type 0
IfRefused P (Ok value) = Unit {0}
IfRefused P (Err (WrongPhase p)) = Unit {0}
IfRefused P (Err (Refused r)) = P r
