-- Why a call was refused.
use Rattle.std.specs.Prelude.{ℕ, ◌+◌, ◌≡◌, ◌⊎◌, Result, Ok, Err}
use Rattle.hg_gate.specs.declared.fault.GateFault.{GateFault}
use Rattle.hg_gate.specs.declared.fault.GateFault.TheVariants as gate
use Rattle.hg_root.specs.declared.fault.RootFault.{RootFault}
use Rattle.hg_root.specs.declared.fault.RootFault.TheVariants.{Broken, Damaged, DeviceFault, OutOfMemory}

-- the fault of a gated file, as a root's
abbrev pub of_gate : GateFault → RootFault
of_gate gate.Broken = Broken
of_gate gate.Damaged = Damaged
of_gate gate.DeviceFault = DeviceFault
of_gate gate.OutOfMemory = OutOfMemory

-- how many calls of the disks have failed after this fault; n had failed before it
abbrev pub after_fault : RootFault → ℕ → ℕ
after_fault DeviceFault n = n + 1
after_fault Broken n = n
after_fault Damaged n = n
after_fault OutOfMemory n = n

-- how many calls of the disks have failed after this answer; n had failed before it
abbrev pub failures_after : {T : Type 0} → Result T RootFault → ℕ → ℕ
failures_after (Ok value) n = n
failures_after (Err fault) n = after_fault fault n

-- the faults of a call that takes no memory and reads nothing
abbrev pub IsBrokenOrDevice : RootFault → Type 0
IsBrokenOrDevice fault = (fault ≡ Broken) ⊎ (fault ≡ DeviceFault)

-- the faults of a call that reads bytes in memory
abbrev pub IsDamagedOrMemory : RootFault → Type 0
IsDamagedOrMemory fault = (fault ≡ Damaged) ⊎ (fault ≡ OutOfMemory)
