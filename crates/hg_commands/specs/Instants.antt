-- What contracts see of a moment of a command.
use Rattle.std.specs.Prelude.{◌≡◌, ℕ, List, [], ◌∷◌, All, Option, Some, None}
use Rattle.hg_streams.specs.declared.call.WriteCall.{WriteCall}
use Rattle.hg_store.specs.declared.devices.Devices.{Devices}
use Rattle.hg_store.specs.Limits.{Limits, greatest_with, limits_of}
use Rattle.hg_store.specs.Runs.{Made}
use Rattle.hg_store.specs.Shown.{ShownStore}

-- the devices of a store, the calls of an output so far, the limits of the store if one is open, and the step that it made last, if it
-- is the moment behind a step
pub record Instant (D : Type 0) : Type 0 where
  pub devices : Devices D
  pub calls : List WriteCall
  pub limits : Option Limits
  pub made : Option (Made D)

-- no store is open
abbrev pub instant : {D : Type 0} → Devices D → List WriteCall → Instant D
instant devices calls = record { devices = devices; calls = calls; limits = None; made = None }

-- a store is open, and made this step last
abbrev pub instant_by : {D : Type 0} → ShownStore D → List WriteCall → Option (Made D) → Instant D
instant_by s calls last = record { devices = s.devices; calls = calls; limits = Some (limits_of s); made = last }

-- a store is open, and no step is told of
abbrev pub instant_of : {D : Type 0} → ShownStore D → List WriteCall → Instant D
instant_of s calls = instant_by s calls None

-- a store is open, behind this step
abbrev pub instant_behind : {D : Type 0} → Made D → ShownStore D → List WriteCall → Instant D
instant_behind step s calls = instant_by s calls (Some step)

-- one step more, the newest first, if there is one
abbrev pub made_before : {D : Type 0} → Option (Made D) → List (Made D) → List (Made D)
made_before None earlier = earlier
made_before (Some step) earlier = step ∷ earlier

-- the steps that these moments tell of, the newest first
abbrev pub made_at : {D : Type 0} → List (Instant D) → List (Made D)
made_at [] = []
made_at (moment ∷ earlier) = made_before moment.made (made_at earlier)

-- A store is open, with these limits.
abbrev pub HasLimits : {D : Type 0} → Limits → Instant D → Type 0
HasLimits limits moment = moment.limits ≡ Some limits

-- At each of these moments a store was open, with so many frames and the greatest caps.
abbrev pub WereOpenWith : {D : Type 0} → ℕ → List (Instant D) → Type 0
WereOpenWith frames moments = All (HasLimits (greatest_with frames)) moments

-- A store was opened with so many frames and the greatest caps, once, where the calls of the output were these; and these are its devices as they were then.
pub record WasOpened {D : Type 0} (frames : ℕ) (calls : List WriteCall) (moments : List (Instant D)) (now : Devices D) : Type 0 where
  pub moment : Instant D
  pub once : moments ≡ moment ∷ []
  pub limits : HasLimits (greatest_with frames) moment
  pub unwritten : moment.calls ≡ calls
  pub still : now ≡ moment.devices
