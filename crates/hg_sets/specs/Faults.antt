-- The refusal of an event for a fault of the table.
use Rattle.hg_model.specs.declared.verdict.Refusal.{Refusal}
use Rattle.hg_model.specs.declared.verdict.Refusal.TheVariants as refusal
use Rattle.hg_sets.specs.declared.fault.SetFault.{SetFault}
use Rattle.hg_sets.specs.declared.fault.SetFault.TheVariants.{Full, OutOfMemory}

-- the fault, as the refusal of an event
abbrev pub refusal_of : SetFault → Refusal
refusal_of Full = refusal.FullSets
refusal_of OutOfMemory = refusal.OutOfMemory
