-- One table that takes the sets of all parts, in the order in which they were made.
use Rattle.std.specs.Prelude.{◌≡◌, ℕ, ◌≤◌, List, [], ◌∷◌, ◌++◌, length, take, drop, Option, Some, None}
use Rattle.std.specs.List.{AllByRecursion}
use Rattle.hg_sets.specs.Interning.{Table}
use Rattle.hg_shards.specs.declared.full.Taking.{Taking}
use Rattle.hg_shards.specs.declared.shard.Shard.{Shard}
use Rattle.hg_shards.specs.Asking.{HasSets}

-- the sets that were taken, so many of each shard
abbrev pub taken_sets : List Shard → List ℕ → List (List ℕ)
taken_sets [] taken = []
taken_sets (s ∷ shards) [] = []
taken_sets (s ∷ shards) (n ∷ taken) = take n s.detector.sets.sets ++ taken_sets shards taken

-- What was taken of a shard was made up to this event, and the rest at it or behind it.
pub record IsCutAt (event : ℕ) (s : Shard) (n : ℕ) : Type 0 where
  pub within : n ≤ length s.log.events
  pub before : AllByRecursion (λ e. e ≤ event) (take n s.log.events)
  pub behind : AllByRecursion (λ e. event ≤ e) (drop n s.log.events)

abbrev pub AreCutAt : ℕ → List Shard → List ℕ → Type 0
AreCutAt event [] [] = Unit {0}
AreCutAt event [] (n ∷ taken) = ⊥
AreCutAt event (s ∷ shards) [] = ⊥
AreCutAt event (s ∷ shards) (n ∷ taken) = IsCutAt event s n × AreCutAt event shards taken

-- The table has the sets that were taken, and these were made before all others.
pub record IsTaking (limit : ℕ) (shards : List Shard) (taken : List ℕ) (t : Table) : Type 0 where
  pub counts : length taken ≡ length shards
  pub sets : HasSets limit (taken_sets shards taken) t
  pub event : ℕ
  pub cut : AreCutAt event shards taken

-- The sets of the shards that were taken so far. There may be no table yet.
abbrev pub HasTaken : ℕ → List Shard → Option Taking → Type 0
HasTaken limit shards None = Unit {0}
HasTaken limit shards (Some t) = IsTaking limit shards t.taken.items t.table

-- of how many parts sets are taken, of so many where there is no table yet
abbrev pub parts_taken : ℕ → Option Taking → ℕ
parts_taken parts None = parts
parts_taken parts (Some t) = length t.taken.items
