-- Why a command over a store ended by a fault.
use Rattle.std.proofs.Common.{◌≡◌, ℕ, ◌+◌, Result, Ok, Err, arith}
use Rattle.hg_model.specs.declared.verdict.Refusal.{Refusal}
use Rattle.hg_model.specs.declared.verdict.Refusal.TheVariants.{DeviceFault}
use Rattle.hg_store.specs.Journal.{after_refusal, failed_after}
use Rattle.hg_streams.specs.Told.{told, told_refusal}

-- how many calls have failed after a refusal
pub refusal_is_counted : (r : Refusal) (n : ℕ) → after_refusal r n ≡ told_refusal r + n
refusal_is_counted DeviceFault n = omega arith
refusal_is_counted _ n = omega arith

-- how many have failed after an answer
pub answer_is_counted : {T : Type 0} (result : Result T Refusal) (n : ℕ) → failed_after result n ≡ told result + n
answer_is_counted (Ok x) n = omega arith
answer_is_counted (Err r) n = refusal_is_counted r n
