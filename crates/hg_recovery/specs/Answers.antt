-- The refusals of a recovery, and how many device calls failed.
use Rattle.std.specs.Prelude.{◌≡◌, ◌≢◌, ◌⊎◌, ◌+◌, ℕ, false, Result, Ok, Err, IfErr}
use Rattle.hg_model.specs.declared.verdict.Refusal.{Refusal}
use Rattle.hg_model.specs.declared.verdict.Refusal.TheVariants as refusal
use Rattle.hg_model.specs.declared.verdict.Refusal.TheVariants.{Damaged, FullSets, FullSlots, DeviceFault, OutOfMemory}
use Rattle.hg_pool.specs.Maps as pools
use Rattle.hg_pool.specs.Shown as pool

-- The refusals of a recovery.
abbrev pub IsOfRecovery : Refusal → Type 0
IsOfRecovery refusal = (refusal ≡ Damaged) ⊎ ((refusal ≡ FullSets) ⊎ ((refusal ≡ FullSlots) ⊎ ((refusal ≡ DeviceFault) ⊎ (refusal ≡ OutOfMemory))))

-- how many device calls failed in a step with this refusal
abbrev pub failed_in : Refusal → ℕ
failed_in refusal.DeviceFault = 1
failed_in _ = 0

-- How many calls of devices have failed after this answer; `old` had failed before it. DeviceFault adds one, and any other
-- answer adds none.
abbrev pub CountedBy : Refusal → ℕ → ℕ → Type 0
CountedBy refusal old new = new ≡ failed_in refusal + old

abbrev pub CountsFailures : {T : Type 0} → Result T Refusal → ℕ → ℕ → Type 0
CountsFailures (Ok value) old new = new ≡ old
CountsFailures (Err refusal) old new = CountedBy refusal old new

-- The refusals of a search for the newest root.
abbrev pub IsOfRoots : Refusal → Type 0
IsOfRoots refusal = (refusal ≡ Damaged) ⊎ ((refusal ≡ DeviceFault) ⊎ (refusal ≡ OutOfMemory))

-- refused with Damaged only where P holds
abbrev pub IfDamaged : {T X : Type 0} → Result T (Refusal × X) → Type 0 → Type 0
IfDamaged result P = IfErr result (λ e. e.0 ≡ Damaged → P)

-- refused with FullSets only where P holds
abbrev pub IfFullSets : {T X : Type 0} → Result T (Refusal × X) → Type 0 → Type 0
IfFullSets result P = IfErr result (λ e. e.0 ≡ FullSets → P)

-- refused with FullSlots only where P holds
abbrev pub IfFullSlots : {T X : Type 0} → Result T (Refusal × X) → Type 0 → Type 0
IfFullSlots result P = IfErr result (λ e. e.0 ≡ FullSlots → P)

-- a call that hands nothing back is refused with Damaged only where P holds
abbrev pub OnDamaged : {T : Type 0} → Result T Refusal → Type 0 → Type 0
OnDamaged result P = result ≡ Err Damaged → P

abbrev pub OnFullSets : {T : Type 0} → Result T Refusal → Type 0 → Type 0
OnFullSets result P = result ≡ Err FullSets → P

abbrev pub OnFullSlots : {T : Type 0} → Result T Refusal → Type 0 → Type 0
OnFullSlots result P = result ≡ Err FullSlots → P

-- Unless a device failed, the pool works.
abbrev pub WorksOrFault : {D T : Type 0} → Result T Refusal → pool.ShownPool D → Type 0
WorksOrFault result p = (result ≢ Err DeviceFault) → pools.is_broken p ≡ false
