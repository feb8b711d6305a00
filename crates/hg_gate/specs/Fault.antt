-- Why a call was refused.
use Rattle.std.specs.Prelude.{ℕ, ◌+◌, ◌≡◌, ◌⊎◌, Result, Ok, Err}
use Rattle.hg_gate.specs.declared.fault.GateFault.{GateFault}
use Rattle.hg_gate.specs.declared.fault.GateFault.TheVariants.{Broken, Damaged, DeviceFault, OutOfMemory}

-- how many calls of the disk have failed after this fault; n had failed before it
abbrev pub after_fault : GateFault → ℕ → ℕ
after_fault DeviceFault n = n + 1
after_fault Broken n = n
after_fault Damaged n = n
after_fault OutOfMemory n = n

-- how many calls of the disk have failed after this answer; n had failed before it
abbrev pub failures_after : {T : Type 0} → Result T GateFault → ℕ → ℕ
failures_after (Ok value) n = n
failures_after (Err fault) n = after_fault fault n

-- the faults of a call that takes no memory and reads nothing
abbrev pub IsBrokenOrDevice : GateFault → Type 0
IsBrokenOrDevice fault = (fault ≡ Broken) ⊎ (fault ≡ DeviceFault)

-- the faults of a call that reads and takes no memory
abbrev pub IsDamagedOrDevice : GateFault → Type 0
IsDamagedOrDevice fault = (fault ≡ Damaged) ⊎ (fault ≡ DeviceFault)
