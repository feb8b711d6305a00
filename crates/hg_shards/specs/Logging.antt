-- At which event of a trace each set of a table was asked for first.
use Rattle.std.specs.Prelude.{ℕ, ◌-◌, ◌≤◌, nat_le, List, [], ◌∷◌, ◌++◌, length, replicate, Vec, vec_capacity, if◌then◌else◌}
use Rattle.std.specs.List.{AllByRecursion}

-- for each set by number the event that asked for it first, and how many sets there may be
pub record Log : Type 0 where
  pub limit : ℕ
  pub events : List ℕ

-- the log of a table that has the empty set alone: it is there before the first event
abbrev pub first_log : ℕ → Log
first_log limit = record { limit = limit; events = 0 ∷ [] }

-- the log has as many sets as there may be, or room for them
pub record HasRoomToLog {Z : Type 0} (limit : ℕ) (events : Vec ℕ Z) : Type 0 where
  pub within : length events.items ≤ limit
  pub room : limit ≤ vec_capacity events

-- the events, and this one for each set that is not noted of so many
abbrev pub noted : List ℕ → ℕ → ℕ → List ℕ
noted events count event = events ++ replicate (count - length events) event

-- the sets that were made up to event k, where these are the events that made them
abbrev pub made_by : ℕ → List (List ℕ) → List ℕ → List (List ℕ)
made_by k [] events = []
made_by k (set ∷ sets) [] = []
made_by k (set ∷ sets) (event ∷ events) = if nat_le event k then set ∷ made_by k sets events else made_by k sets events

-- Each event of the log is at or behind those before it.
abbrev pub NeverFalls : List ℕ → Type 0
NeverFalls [] = Unit {0}
NeverFalls (event ∷ events) = AllByRecursion (λ later. event ≤ later) events × NeverFalls events
