-- The invariant of a `Recency`.
use Rattle.std.specs.Prelude.{◌≡◌, ◌≤◌, ◌<◌, ◌==◌, ℕ, nat_eq, Bool, true, false, List, [], ◌∷◌, length, if◌then◌else◌}
use Rattle.std.specs.List.{IsDistinct}
use Rattle.std.specs.Map.{keys_of, lookup}
use Rattle.hg_cache.specs.declared.node.Node.{Node}
use Rattle.hg_cache.specs.Rings.{IsRing, is_used_at, named}

-- whether the place is among these
abbrev pub listed : ℕ → List ℕ → Bool
listed p [] = false
listed p (q ∷ qs) = if p == q then true else listed p qs

-- These places are the ring. The map finds each key in its place, and each place that is marked as used is one of them.
pub record IsSound (ns : List Node) (end : ℕ) (ps : List ℕ) (places : List (ℕ × ℕ)) : Type 0 where
  pub some : 0 < end
  pub small : end < 4294967296
  pub few : length ps ≤ end
  pub ring : IsRing ns end ps
  pub finds : (key : ℕ) → lookup (nat_eq key) places ≡ lookup (nat_eq key) (named ns ps)
  pub distinct : IsDistinct nat_eq (keys_of (named ns ps))
  pub used : (p : ℕ) → is_used_at ns p ≡ true → listed p ps ≡ true
