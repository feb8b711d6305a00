-- How failed calls of streams and answered faults go together.
use Rattle.std.specs.Prelude.{ℕ, Result, Ok, Err}
use Rattle.hg_model.specs.declared.verdict.Refusal.{Refusal}
use Rattle.hg_model.specs.declared.verdict.Refusal.TheVariants.{DeviceFault, OutOfMemory}

-- how many failed calls a refusal tells of: one for a device fault, else none
abbrev pub told_refusal : Refusal → ℕ
told_refusal DeviceFault = 1
told_refusal r = 0

abbrev pub told : {T : Type 0} → Result T Refusal → ℕ
told (Ok x) = 0
told (Err r) = told_refusal r

-- how many reads that were refused memory a refusal of a read tells of
abbrev pub lacked_refusal : Refusal → ℕ
lacked_refusal OutOfMemory = 1
lacked_refusal r = 0

abbrev pub lacked : {T : Type 0} → Result T Refusal → ℕ
lacked (Ok x) = 0
lacked (Err r) = lacked_refusal r
