-- The event of a hold.
use Rattle.std.specs.Prelude.{ℕ}
use Rattle.hg_model.specs.declared.event.Event.{Event}
use Rattle.hg_model.specs.declared.event.Event.TheVariants as events
use Rattle.hg_model.specs.declared.event.Hold.{Hold}
use Rattle.hg_model.specs.declared.event.HoldKind.{HoldKind}
use Rattle.hg_model.specs.declared.event.HoldKind.TheVariants.{Lock, RdLock, Unlock}
use Rattle.hg_model.specs.declared.event.Named.{Named}

-- what a thread does to a lock
abbrev pub event_on : HoldKind → ℕ → ℕ → Event
event_on Lock t l = events.Lock t l
event_on RdLock t l = events.RdLock t l
event_on Unlock t l = events.Unlock t l

-- the event of a hold
abbrev pub hold_event : Hold → Event
hold_event h = event_on h.kind h.t h.l

-- under the number that its source gave it
abbrev pub hold_named : ℕ → ℕ → Hold → Named
hold_named source number h = record { source = source; number = number; event = hold_event h }
