-- Places in a ring. Each names its neighbours.
use Rattle.std.specs.Prelude.{◌≡◌, ◌≢◌, ◌+◌, ◌<◌, ℕ, zero, suc, ⊤, Bool, true, false, List, [], ◌∷◌, length, get_or, set}
use Rattle.std.specs.List.{AllByRecursion}
use Rattle.hg_cache.specs.declared.node.Node.{Node}

-- the node beyond the last place
abbrev pub blank : Node
blank = record { key = 0; newer = 0; older = 0; is_used = false }

-- the place used just after this one, and the place used just before it
abbrev pub newer_at : List Node → ℕ → ℕ
newer_at ns p = (get_or ns p blank).newer

abbrev pub older_at : List Node → ℕ → ℕ
older_at ns p = (get_or ns p blank).older

-- the key in a place, and whether there is one
abbrev pub key_at : List Node → ℕ → ℕ
key_at ns p = (get_or ns p blank).key

abbrev pub is_used_at : List Node → ℕ → Bool
is_used_at ns p = (get_or ns p blank).is_used

-- a place with another neighbour
abbrev pub with_newer : List Node → ℕ → ℕ → List Node
with_newer ns p newer = set ns p (record (get_or ns p blank) { newer = newer })

abbrev pub with_older : List Node → ℕ → ℕ → List Node
with_older ns p older = set ns p (record (get_or ns p blank) { older = older })

-- a key in a place, or none
abbrev pub with_key : List Node → ℕ → ℕ → List Node
with_key ns p key = set ns p (record (get_or ns p blank) { key = key; is_used = true })

abbrev pub without_key : List Node → ℕ → List Node
without_key ns p = set ns p (record (get_or ns p blank) { is_used = false })

-- Its neighbours become each other's.
abbrev pub unlinked : List Node → ℕ → List Node
unlinked ns p = with_newer (with_older ns (newer_at ns p) (older_at ns p)) (older_at ns p) (newer_at ns p)

-- It comes behind the place that closes the ring.
abbrev pub linked : List Node → ℕ → ℕ → List Node
linked ns end p = with_older (with_newer (with_older (with_newer ns p end) p (older_at ns end)) (older_at ns end) p) end p

-- On the way from `from` by these places to `to`, neighbours name each other.
abbrev pub AreLinked : List Node → ℕ → List ℕ → ℕ → Type 0
AreLinked ns from [] to = (older_at ns from ≡ to) × (newer_at ns to ≡ from)
AreLinked ns from (p ∷ ps) to = (older_at ns from ≡ p) × (newer_at ns p ≡ from) × AreLinked ns p ps to

-- none of these is the place
abbrev pub IsApart : ℕ → List ℕ → Type 0
IsApart p ps = AllByRecursion (λ q. q ≢ p) ps

-- these places are distinct
abbrev pub AreApart : List ℕ → Type 0
AreApart [] = ⊤
AreApart (p ∷ ps) = IsApart p ps × AreApart ps

-- these places, the last used first, form a ring; the place `end`, the last of all, closes it
pub record IsRing (ns : List Node) (end : ℕ) (ps : List ℕ) : Type 0 where
  pub long : length ns ≡ end + 1
  pub within : AllByRecursion (λ p. p < end) ps
  pub apart : AreApart ps
  pub links : AreLinked ns end ps end

-- the n places that follow this one
abbrev pub followed : List Node → ℕ → ℕ → List ℕ
followed ns from zero = []
followed ns from (suc n) = older_at ns from ∷ followed ns (older_at ns from) n

-- each place with its key
abbrev pub named : List Node → List ℕ → List (ℕ × ℕ)
named ns [] = []
named ns (p ∷ ps) = (key_at ns p, p) ∷ named ns ps
