-- The calls of a disk that are kept as data.
use Rattle.std.specs.Prelude.{◌≡◌, ◌≤◌, ◌^◌, ℕ, List, [], ◌∷◌, ◌++◌, length}
use Rattle.std.proofs.Props.{props}
use Rattle.hg_disk.specs.Event.{Event}
use Rattle.hg_disk.specs.Len.{len_written, end_written}
use Rattle.hg_disk.specs.declared.call.Answered.{Answered}
use Rattle.hg_disk.specs.declared.call.Call.{Call}
use Rattle.hg_disk.specs.declared.call.Answer.{Answer}
use Rattle.hg_disk.specs.declared.call.Answer.TheVariants.{Done, Failed, Refused}

-- the calls kept after e: e on top of all calls before it; if e was refused, only those kept before it
abbrev pub keep : Answer → Event → List Event → List Event → List Event
keep Done e earlier before = e ∷ earlier
keep Failed e earlier before = e ∷ earlier
keep Refused e earlier before = before

-- all calls up to the first one that was refused
abbrev pub kept : List Event → List Event
kept [] = []
kept (e ∷ earlier) = keep e.told.answer e earlier (kept earlier)

-- the calls with their answers, the oldest first
abbrev pub calls_in : List Event → List Answered
calls_in [] = []
calls_in (e ∷ earlier) = calls_in earlier ++ e.told ∷ []

-- the bytes of all writes that took effect, one after another, the oldest first
abbrev pub written_in : List Event → List ℕ
written_in [] = []
written_in (e ∷ earlier) = written_in earlier ++ e.bytes

-- a call with the bytes that it wrote, within the greatest length
pub record Fits (call : Call) (answer : Answer) (bytes : List ℕ) : Type 0 where
  pub len : len_written call answer ≡ length bytes
  pub within : end_written call answer ≤ 2 ^ 62

-- all of the calls fit
abbrev pub AllFit : List Event → Type 0
AllFit [] = Unit {0}
AllFit (e ∷ earlier) = Fits e.told.call e.told.answer e.bytes × AllFit earlier

pub AllFit_prop : (events : List Event) → IsProp (AllFit events)
AllFit_prop [] = hlevel
AllFit_prop (e ∷ earlier) = let rest : IsProp (AllFit earlier) = AllFit_prop earlier in hlevel (rest, props)
