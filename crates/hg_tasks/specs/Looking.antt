-- The calls of a file that is looked at, as those of a disk, and the errors of those that failed.
use Rattle.std.specs.Prelude.{ℕ, List, [], ◌∷◌, Option, None, Some, Result, Ok, Err}
use Rattle.std.specs.Option.{option_or}
use Rattle.std.specs.declared.io.Error.{Error}
use Rattle.hg_disk.specs.declared.history.Event as disk
use Rattle.hg_disk.specs.Event.{event}
use Rattle.hg_disk.specs.declared.call.Call.{Call}
use Rattle.hg_disk.specs.declared.call.Answer.{Answer}
use Rattle.hg_disk.specs.declared.call.Answer.TheVariants.{Done, Failed}
use Rattle.hg_tasks.specs.declared.look.Event.{Event}

-- how a call ended: it failed where there is an error
abbrev pub answer_by : Option Error → Answer
answer_by None = Done
answer_by (Some error) = Failed

-- the calls as those of a disk, with what they wrote
abbrev pub calls_in : List Event → List disk.Event
calls_in [] = []
calls_in (e ∷ earlier) = event e.call (answer_by e.error) e.bytes ∷ calls_in earlier

-- the calls with one more on top: it took effect and wrote the bytes, or it failed by the error
abbrev pub with_call : {T : Type 0} → Call → List ℕ → Result T Error → List Event → List Event
with_call call bytes (Ok value) earlier = record { call = call; bytes = bytes; error = None } ∷ earlier
with_call call bytes (Err error) earlier = record { call = call; bytes = []; error = Some error } ∷ earlier

-- the error of the first call that failed
abbrev pub first_error : List Event → Option Error
first_error [] = None
first_error (e ∷ earlier) = option_or (first_error earlier) e.error
