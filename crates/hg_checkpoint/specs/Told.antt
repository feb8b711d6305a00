-- The conversions between the causes of a checkpoint's refusals and those of other layers.
use Rattle.hg_model.specs.declared.verdict.Refusal.{Refusal}
use Rattle.hg_model.specs.declared.verdict.Refusal.TheVariants as refusal
use Rattle.hg_pages.specs.declared.fault.WriteFault.{WriteFault}
use Rattle.hg_pages.specs.declared.fault.WriteFault.TheVariants as write
use Rattle.hg_pool.specs.declared.fault.FreezeFault.{FreezeFault}
use Rattle.hg_pool.specs.declared.fault.FreezeFault.TheVariants as freeze
use Rattle.hg_root.specs.declared.fault.RootFault.{RootFault}
use Rattle.hg_root.specs.declared.fault.RootFault.TheVariants as fault
use Rattle.hg_checkpoint.specs.declared.cause.Cause.{Cause}
use Rattle.hg_checkpoint.specs.declared.cause.Cause.TheVariants as cause

-- the cause that tells a fault of a root file
abbrev pub of_root : RootFault → Cause
of_root fault.Broken = cause.Broken
of_root fault.Damaged = cause.Damaged
of_root fault.DeviceFault = cause.DeviceFault
of_root fault.OutOfMemory = cause.OutOfMemory

-- the cause of a freeze that the pool refused
abbrev pub of_freeze : FreezeFault → Cause
of_freeze freeze.FullSlots = cause.FullSlots
of_freeze freeze.OutOfMemory = cause.OutOfMemory

-- the cause that tells a fault of a write or a sync of the slots
abbrev pub of_write : WriteFault → Cause
of_write write.Broken = cause.Broken
of_write write.DeviceFault = cause.DeviceFault

-- the refusal of the same name
abbrev pub refusal_of : Cause → Refusal
refusal_of cause.Broken = refusal.Broken
refusal_of cause.Damaged = refusal.Damaged
refusal_of cause.DeviceFault = refusal.DeviceFault
refusal_of cause.FullEvents = refusal.FullEvents
refusal_of cause.FullSlots = refusal.FullSlots
refusal_of cause.OutOfMemory = refusal.OutOfMemory
