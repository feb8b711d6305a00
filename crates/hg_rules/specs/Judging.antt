-- For proofs alone: the search for the first cause, once the event's number is the next one of its source.
use Rattle.std.specs.Prelude.{◌≡◌, ℕ}
use Rattle.hg_model.specs.declared.event.Event.{Event}
use Rattle.hg_model.specs.declared.verdict.Verdict.{Verdict}
use Rattle.hg_model.specs.Parts.{Parts}
use Rattle.hg_model.specs.Verdicts.{causes, first_cause, standing}

-- The verdict gives the first cause that applies to an event of a source, or accepts it. The event's number plays no part.
abbrev pub IsFirstCause : Parts → ℕ → Event → Verdict → Type 0
IsFirstCause p source e v = (number : ℕ) → v ≡ first_cause (causes (standing p) (record { source = source; number = number; event = e }))
