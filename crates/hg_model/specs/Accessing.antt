-- The event of an access.
use Rattle.std.specs.Prelude.{ℕ, Bool, if◌then◌else◌}
use Rattle.hg_model.specs.declared.event.Access.{Access}
use Rattle.hg_model.specs.declared.event.Event.{Event}
use Rattle.hg_model.specs.declared.event.Event.TheVariants.{Read, Write}
use Rattle.hg_model.specs.declared.event.Named.{Named}
use Rattle.hg_model.specs.Parts.{Parts}
use Rattle.hg_model.specs.Verdicts.{MayBeNext}

-- a write or a read
abbrev pub access_event : Bool → Access → Event
access_event write a = if write then Write a else Read a

-- under the number that its source gave it
abbrev pub access_named : ℕ → ℕ → Bool → Access → Named
access_named source number write a = record { source = source; number = number; event = access_event write a }

-- Some access is accepted under that number of the source.
abbrev pub MayAccess : Parts → ℕ → ℕ → Type 0
MayAccess p source number = (write : Bool) × (a : Access) × MayBeNext p (access_named source number write a)
