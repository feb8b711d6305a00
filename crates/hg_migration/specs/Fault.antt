-- Why a store was not migrated.
use Rattle.std.specs.Prelude.{ℕ, ◌+◌, Result, Ok, Err}
use Rattle.hg_migration.specs.declared.fault.MigrationFault.{MigrationFault}
use Rattle.hg_migration.specs.declared.fault.MigrationFault.TheVariants.{Damaged, DeviceFault, NotEmpty, OutOfMemory}

-- how many device calls have failed after this fault; n had failed before it
abbrev pub after_fault : MigrationFault → ℕ → ℕ
after_fault DeviceFault n = n + 1
after_fault NotEmpty n = n
after_fault Damaged n = n
after_fault OutOfMemory n = n

-- how many device calls have failed after this answer; n had failed before it
abbrev pub failures_after : {T : Type 0} → Result T MigrationFault → ℕ → ℕ
failures_after (Ok value) n = n
failures_after (Err fault) n = after_fault fault n
