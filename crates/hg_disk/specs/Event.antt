-- The calls of a disk, with their answers and bytes.
use Rattle.std.specs.Prelude.{ℕ, Bool, List, [], ◌∷◌, Result, Ok, Err, if◌then◌else◌}
use Rattle.hg_disk.specs.declared.call.Call.{Call}
use Rattle.hg_disk.specs.declared.call.Answer.{Answer}
use Rattle.hg_disk.specs.declared.call.Answer.TheVariants.{Done, Failed, Refused}
pub use Rattle.hg_disk.specs.declared.history.Event.{Event}

-- one call with its answer and bytes
abbrev pub event : Call → Answer → List ℕ → Event
event call answer bytes = record { told = record { call = call; answer = answer }; bytes = bytes }

-- how a call with this result ended
abbrev pub answer_of : {T E : Type 0} → Result T E → Answer
answer_of (Ok value) = Done
answer_of (Err error) = Failed

-- the calls with one more on top: it took effect and wrote the bytes, or it failed
abbrev pub with_answer : {T E : Type 0} → Call → List ℕ → (is_done : Bool) → Result T E → List Event → List Event
with_answer call bytes is_done result earlier = event call (answer_of result) (if is_done then bytes else []) ∷ earlier

-- the calls with a refused one on top
abbrev pub with_refusal : Call → List Event → List Event
with_refusal call earlier = event call Refused [] ∷ earlier

-- the calls, with a refused one on top unless the call was made
abbrev pub refused_unless : (is_made : Bool) → Call → List Event → List Event
refused_unless is_made call earlier = if is_made then earlier else event call Refused [] ∷ earlier
