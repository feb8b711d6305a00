-- Where one detector stops in a batch, by the stops of the shards and by their logs.
use Rattle.std.specs.Prelude.{ℕ, ◌-◌, Bool, true, false, ◌&&◌, nat_le, nat_lt, List, length, Option, Some, None, if◌then◌else◌}
use Rattle.hg_model.specs.declared.event.Named.{Named}
use Rattle.hg_model.specs.declared.verdict.Refusal.TheVariants.{FullSets, OutOfMemory}
use Rattle.hg_shards.specs.declared.shards.Cause.{Cause}
use Rattle.hg_shards.specs.declared.shards.Cause.TheVariants as causes
use Rattle.hg_shards.specs.declared.shards.Stop.{Stop}

-- how many events of a batch were accepted
abbrev pub accepted_of : List Named → Option Stop → ℕ
accepted_of events None = length events
accepted_of events (Some stop) = stop.place

-- The stop of one detector that had accepted so many events before the batch. `first` is the first stop of the shards, and `found` the
-- event at which they have more sets together than one table has room for. It counts where all shards know it.
abbrev pub one_stop : ℕ → List Named → Option Stop → Option ℕ → Option Stop
one_stop before events first None = first
one_stop before events first (Some event) =
    if nat_lt before event && nat_le (event - before) (accepted_of events first) then Some (record { place = event - before - 1; cause = causes.Refused FullSets })
    else first

-- the event was refused for want of memory
abbrev pub wants_memory : Cause → Bool
wants_memory (causes.Refused OutOfMemory) = true
wants_memory cause = false

-- the batch stopped for want of memory
abbrev pub is_for_memory : Option Stop → Bool
is_for_memory None = false
is_for_memory (Some stop) = wants_memory stop.cause
