-- What stands first, last and behind.
use Rattle.std.proofs.Common.{◌≡◌, ◌-◌, ◌<◌, ◌==◌, ◌∙◌, ℕ, suc, Bool, true, false, List, [], ◌∷◌, ◌++◌, length, slice_get, Option, Some, None, if◌then◌else◌, refl, sym, ap, subst, arith}
use Rattle.lru.specs.LruCache.{last_entry}
use Rattle.hg_cache.specs.declared.node.Node.{Node}
use Rattle.hg_cache.specs.Entries.{behind, has_place}
use Rattle.hg_cache.specs.Rings.{IsApart, IsRing, key_at, named, newer_at, older_at}
use Rattle.hg_cache.specs.Sound.{listed}
use Rattle.hg_cache.proofs.Numbers.{if_false, if_true, itself, same_number}
use Rattle.hg_cache.proofs.Linking.{apart_unlinked, first_older, last_newer, next_older, none_older, place_within}
use Rattle.hg_cache.proofs.Naming.{stands}

-- the last one of some
pub record Ends (ps : List ℕ) : Type 0 where
  pub front : List ℕ
  pub last : ℕ
  pub split : ps ≡ front ++ last ∷ []

pub ends : (p : ℕ) (ps : List ℕ) → Ends (p ∷ ps)
ends p [] = record { front = []; last = p; split = refl }
ends p (q ∷ qs) = let e = ends q qs in record { front = p ∷ e.front; last = e.last; split = ap (λ (l : List ℕ). p ∷ l) e.split }

got_last : (ns : List Node) (p : ℕ) (xs : List ℕ) → slice_get (named ns (xs ++ p ∷ [])) (length xs) ≡ Some (key_at ns p, p)
got_last ns p [] = refl
got_last ns p (x ∷ xs) = got_last ns p xs

one_more : (ns : List Node) (p : ℕ) (xs : List ℕ) → length (named ns (xs ++ p ∷ [])) ≡ suc (length xs)
one_more ns p [] = refl
one_more ns p (x ∷ xs) = ap suc (one_more ns p xs)

last_named : (ns : List Node) (p : ℕ) (xs : List ℕ) → last_entry (named ns (xs ++ p ∷ [])) ≡ Some (key_at ns p, p)
last_named ns p xs =
    let long = one_more ns p xs in
    let at : length (named ns (xs ++ p ∷ [])) - 1 ≡ length xs = omega (arith, long) in
    ap (λ (k : ℕ). slice_get (named ns (xs ++ p ∷ [])) k) at ∙ got_last ns p xs

-- the place used least recently
pub last_of_ring : (ns : List Node) (end : ℕ) (ps : List ℕ) → IsRing ns end ps → (ps ≡ [] → ⊥) → last_entry (named ns ps) ≡ Some (key_at ns (newer_at ns end), newer_at ns end)
last_of_ring ns end [] ring some = absurd (some refl)
last_of_ring ns end (p ∷ ps) ring some =
    let e = ends p ps in
    let at = last_newer ns end e.last e.front (subst (λ (l : List ℕ). IsRing ns end l) e.split ring) in
    ap (λ (l : List ℕ). last_entry (named ns l)) e.split ∙ last_named ns e.last e.front ∙ ap (λ (n : ℕ). Some (key_at ns n, n)) (sym at)

-- the place used last
pub first_of_ring : (ns : List Node) (end : ℕ) (ps : List ℕ) → IsRing ns end ps → (ps ≡ [] → ⊥) → slice_get (named ns ps) 0 ≡ Some (key_at ns (older_at ns end), older_at ns end)
first_of_ring ns end [] ring some = absurd (some refl)
first_of_ring ns end (p ∷ ps) ring some = ap (λ (n : ℕ). Some (key_at ns n, n)) (sym (first_older ns end p ps ring))

pub has_listed : (ns : List Node) (p : ℕ) (ps : List ℕ) → has_place p (named ns ps) ≡ listed p ps
has_listed ns p [] = refl
has_listed ns p (q ∷ qs) = ap (λ (b : Bool). if p == q then true else b) (has_listed ns p qs)

behind_named : (ns : List Node) (p : ℕ) (xs ys : List ℕ) → IsApart p (xs ++ ys) → behind p (named ns (xs ++ p ∷ ys)) ≡ slice_get (named ns ys) 0
behind_named ns p [] ys apart = if_true (p == p) (slice_get (named ns ys) 0) (behind p (named ns ys)) (itself p)
behind_named ns p (x ∷ xs) ys apart =
    if_false (p == x) (slice_get (named ns (xs ++ p ∷ ys)) 0) (behind p (named ns (xs ++ p ∷ ys))) (other (p == x) refl) ∙ behind_named ns p xs ys apart.1
  where
    other : (b : Bool) → (p == x) ≡ b → (p == x) ≡ false
    other true test = absurd (apart.0 (sym (same_number p x test)))
    other false test = test

-- The place behind one is in the ring, or there is none and the ring is closed.
pub record IsBehind (ns : List Node) (end p : ℕ) (found : Option (ℕ × ℕ)) : Type 0 where
  pub place : p < length ns
  pub older : older_at ns p < length ns
  pub none : older_at ns p ≡ end → found ≡ None
  pub some : (older_at ns p ≡ end → ⊥) → found ≡ Some (key_at ns (older_at ns p), older_at ns p)

pub behind_place : (ns : List Node) (end p : ℕ) (ps : List ℕ) → IsRing ns end ps → has_place p (named ns ps) ≡ true → IsBehind ns end p (behind p (named ns ps))
behind_place ns end p ps ring has =
    let s = stands p ps (sym (has_listed ns p ps) ∙ has) in
    subst (λ (l : List ℕ). IsBehind ns end p (behind p (named ns l))) (sym s.split) (by s.before s.after (subst (λ (l : List ℕ). IsRing ns end l) s.split ring))
  where
    by : (xs ys : List ℕ) → IsRing ns end (xs ++ p ∷ ys) → IsBehind ns end p (behind p (named ns (xs ++ p ∷ ys)))
    by xs [] ring =
        let all = place_within ns end p xs [] ring in
        let is = behind_named ns p xs [] (apart_unlinked ns end p xs [] ring) in
        record { place = all.0; older = all.2; none = λ at. is; some = λ not. absurd (not (none_older ns end p xs ring)) }
    by xs (q ∷ ys) ring =
        let all = place_within ns end p xs (q ∷ ys) ring in
        let is = behind_named ns p xs (q ∷ ys) (apart_unlinked ns end p xs (q ∷ ys) ring) in
        let next = next_older ns end p q xs ys ring in
        let below = within_behind xs ring in
        record {
          place = all.0;
          older = all.2;
          none = λ at. absurd (omega (arith, below, sym next ∙ at));
          some = λ not. is ∙ ap (λ (n : ℕ). Some (key_at ns n, n)) (sym next);
        }
      where
        within_behind : (zs : List ℕ) → IsRing ns end (zs ++ p ∷ q ∷ ys) → q < end
        within_behind zs ring = in_all zs ring.within
          where
            in_all : (zs : List ℕ) → Rattle.std.specs.List.AllByRecursion (λ x. x < end) (zs ++ p ∷ q ∷ ys) → q < end
            in_all [] all = all.1.0
            in_all (z ∷ zs) all = in_all zs all.1
