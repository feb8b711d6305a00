-- Keys with their places, the last used first.
use Rattle.std.specs.Prelude.{◌≢◌, ◌==◌, ℕ, Bool, true, false, List, [], ◌∷◌, Option, None, slice_get, if◌then◌else◌}
use Rattle.std.specs.List.{AllByRecursion}

-- whether a key has the place
abbrev pub has_place : ℕ → List (ℕ × ℕ) → Bool
has_place p [] = false
has_place p (e ∷ es) = if p == e.1 then true else has_place p es

-- no key has the place
abbrev pub IsFree : ℕ → List (ℕ × ℕ) → Type 0
IsFree p es = AllByRecursion (λ e. e.1 ≢ p) es

-- the key behind the key in this place, with its place
abbrev pub behind : ℕ → List (ℕ × ℕ) → Option (ℕ × ℕ)
behind p [] = None
behind p (e ∷ es) = if p == e.1 then slice_get es 0 else behind p es
