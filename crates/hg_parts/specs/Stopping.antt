-- How a stop of a judge ends a run.
use Rattle.std.specs.Prelude.{◌≡◌, ℕ, ◌+◌, Ok, Err}
use Rattle.hg_model.specs.declared.event.Event.{Event}
use Rattle.hg_model.specs.declared.verdict.Refusal.{Refusal}
use Rattle.hg_wire.specs.declared.line.LineFault.{LineFault}
use Rattle.hg_wire.specs.declared.reader.Reading.{Reading}
use Rattle.hg_reading.specs.declared.ending.Ending.{Ending}
use Rattle.hg_reading.specs.declared.ending.Ending.TheVariants.{Refused}
use Rattle.hg_shards.specs.declared.shards.Cause.{Cause}
use Rattle.hg_shards.specs.declared.shards.Cause.TheVariants as causes
use Rattle.hg_shards.specs.declared.shards.Stop.{Stop}
use Rattle.hg_parts.specs.declared.batch.Batch.{Batch}
use Rattle.hg_parts.specs.Numbers.{number_at}

-- what is read of the line of an event
abbrev pub reading_at : ℕ → Event → Reading
reading_at line e = record { line = line; event = Ok e }

-- what is read of a bad line
abbrev pub bad_at : ℕ → LineFault → Reading
bad_at line fault = record { line = line; event = Err fault }

-- The line was refused for this cause.
abbrev pub TellsCause : ℕ → Cause → Ending → Type 0
TellsCause line cause end = (r : Refusal) → cause ≡ causes.Refused r → end ≡ Refused line r

-- The line at the stop was refused, by its number behind so many lines.
abbrev pub TellsStop : Batch → ℕ → Stop → Ending → Type 0
TellsStop batch lines stop end = TellsCause (lines + number_at batch.runs.items stop.place) stop.cause end
