-- By which refusal it is told that the files of a store, or memory, can't be had.
use Rattle.hg_model.specs.declared.verdict.Refusal.{Refusal}
use Rattle.hg_model.specs.declared.verdict.Refusal.TheVariants as refusal
use Rattle.hg_tasks.specs.declared.directory.Cause.{Cause}
use Rattle.hg_tasks.specs.declared.directory.Cause.TheVariants.{DeviceFault, OutOfMemory}

abbrev pub refusal_for : Cause → Refusal
refusal_for DeviceFault = refusal.DeviceFault
refusal_for OutOfMemory = refusal.OutOfMemory
