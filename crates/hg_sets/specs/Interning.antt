-- Interned sets: each set of numbers stands once in a table, and its number is its place.
use Rattle.std.specs.Prelude.{◌≡◌, ◌≢◌, ◌⊎◌, ℕ, ◌<◌, ◌≤◌, List, [], ◌∷◌, ◌++◌, length, slice_index_or, All, AllPairs, Contains, MatchOption, Option, Result, Ok, Err}
use Rattle.std.specs.List.Sorted.{IsStrictlyIncreasing}
use Rattle.hg_model.specs.declared.limits.TheConstants.{GREATEST_THREAD}
use Rattle.hg_sets.specs.declared.fault.SetFault.{SetFault}
use Rattle.hg_sets.specs.declared.fault.SetFault.TheVariants.{Full, OutOfMemory}

-- The sets by number, each as the list of its members, and how many sets there may be.
pub record Table : Type 0 where
  pub limit : ℕ
  pub sets : List (List ℕ)

-- the first table: the empty set alone, with room for `limit` sets
abbrev pub first_table : ℕ → Table
first_table limit = record { limit = limit; sets = [] ∷ [] }

-- these sets, each numbered by its place, with room for `limit` sets
abbrev pub table_with : ℕ → List (List ℕ) → Table
table_with limit sets = record { limit = limit; sets = sets }

-- the members of the set with this number
abbrev pub set_at : List (List ℕ) → ℕ → List ℕ
set_at sets id = slice_index_or sets id []

-- What holds of each table: the empty set has number 0, members rise, no set stands twice, and the limit is kept.
pub record AreSets (t : Table) : Type 0 where
  pub limit : t.limit ≤ 262144
  pub within : length t.sets ≤ t.limit
  pub some : 0 < length t.sets
  pub first_empty : set_at t.sets 0 ≡ []
  pub rising : All IsStrictlyIncreasing t.sets
  pub distinct : AllPairs ◌≢◌ t.sets

-- The table is the one that was asked for. There is none only where that one breaks AreSets.
abbrev pub IsRestored : Table → Option Table → Type 0
IsRestored asked found = MatchOption found (¬ AreSets asked) (λ table. table ≡ asked)

-- The members of the set rise strictly, and it is not among the sets.
abbrev pub MayBeAdded : List (List ℕ) → List ℕ → Type 0
MayBeAdded sets set = IsStrictlyIncreasing set × (¬ Contains sets set)

-- the set stands in the list under this number
abbrev pub StandsAt : List (List ℕ) → List ℕ → ℕ → Type 0
StandsAt sets set id = (id < length sets) × (set_at sets id ≡ set)

-- the table with one set more, at the end
abbrev pub with_set : Table → List ℕ → Table
with_set t set = record { limit = t.limit; sets = t.sets ++ set ∷ [] }

-- A set that is absent goes to the end, unless the table is full or memory runs out. Then the table stays.
abbrev pub Adds : Table → List ℕ → Result ℕ SetFault → Table → Type 0
Adds old set (Ok id) new = (length old.sets < old.limit) × (id ≡ length old.sets) × (new ≡ with_set old set)
Adds old set (Err Full) new = (length old.sets ≡ old.limit) × (new ≡ old)
Adds old set (Err OutOfMemory) new = (length old.sets < old.limit) × (new ≡ old)

-- Asking for the number of a set. A set in the table is found, and the table stays. A set that is absent is added.
abbrev pub Interns : Table → List ℕ → Result ℕ SetFault → Table → Type 0
Interns old set result new =
    ((id : ℕ) × StandsAt old.sets set id × (result ≡ Ok id) × (new ≡ old)) ⊎ ((¬ Contains old.sets set) × Adds old set result new)

-- every number keeps its set
pub record KeepsNumbers (old new : Table) : Type 0 where
  pub limit : new.limit ≡ old.limit
  pub sets : (id : ℕ) → id < length old.sets → StandsAt new.sets (set_at old.sets id) id

-- These can be the threads of a shared word: two at least, each the number of a thread.
pub record AreThreads (members : List ℕ) : Type 0 where
  pub several : 2 ≤ length members
  pub threads : All (λ t. t ≤ GREATEST_THREAD) members
