-- Values by number.
use Rattle.std.specs.Prelude.{◌≡◌, ◌==◌, ℕ, nat_eq, List, Option, if◌then◌else◌}
use Rattle.std.specs.Map.{lookup}

-- A table of values: their numbers with them, the first one of a number counting, and for how many more numbers there is room.
pub record Numbers (T : Type 0) : Type 0 where
  pub entries : List (ℕ × T)
  pub room : ℕ

-- the value of a number among these
abbrev pub value_in : {T : Type 0} → List (ℕ × T) → ℕ → Option T
value_in entries k = lookup (nat_eq k) entries

-- the value of a number
abbrev pub at : {T : Type 0} → Numbers T → ℕ → Option T
at table k = value_in table.entries k

-- From then on number n has this value, or none, and each other number what it had.
abbrev pub Becomes : {T : Type 0} → (ℕ → Option T) → ℕ → Option T → (ℕ → Option T) → Type 0
Becomes old n value new = (k : ℕ) → new k ≡ (if n == k then value else old k)
