-- What each step makes of sound parts.
use Rattle.std.proofs.Common.{◌≡◌, ◌+◌, ◌-◌, ◌<◌, ◌≤◌, ◌==◌, ◌∙◌, ℕ, suc, nat_eq, Bool, true, false, cond, List, [], ◌∷◌, ◌++◌, length, get_or, nat_lt, replicate, rules, Option, Some, None, if◌then◌else◌, refl, sym, ap, subst, arith}
use Rattle.std.specs.List.{IsDistinct}
use Rattle.std.specs.Map.{keys_of, lookup, remove_entry}
use Rattle.std.specs.Cmp.{nat_eq_equiv}
use Rattle.std.proofs.lemmas.List.{get_or-replicate, get_or_past, length-replicate}
use Rattle.std.proofs.lemmas.Map.{lookup-remove_entry}
use Rattle.std.proofs.lemmas.Map.Keys.{IsDistinct-cons, IsDistinct-tail}
use Rattle.lru.specs.LruCache.{promoted}
use Rattle.hg_cache.specs.declared.node.Node.{Node}
use Rattle.hg_cache.specs.Entries.{IsFree}
use Rattle.hg_cache.specs.Rings.{blank, IsRing, followed, is_used_at, key_at, linked, named, newer_at, older_at, unlinked, with_key, without_key}
use Rattle.hg_cache.specs.Sound.{IsSound, listed}
use Rattle.hg_cache.proofs.Numbers.{if_false, if_true, itself, turned}
use Rattle.hg_cache.proofs.Linking.{apart_unlinked, key_linked, key_unlinked, key_with, key_without, length_unlinked, place_within, ring_followed, ring_linked, ring_unlinked, ring_with, ring_without, used_linked, used_unlinked, used_with, used_without, first_within}
use Rattle.hg_cache.proofs.Naming.{absent_apart, distinct_first, found_key, free_apart, listed_first, listed_without, looked_first, named_first, named_same, named_with, named_without, stands}

-- so many places follow as there are
pub follows : (ns : List Node) (end count : ℕ) (ps : List ℕ) → IsRing ns end ps → length ps ≡ count → followed ns end count ≡ ps
follows ns end count ps ring long = ap (followed ns end) (sym long) ∙ ring_followed ns end ps ring

-- The place of a key stands in the ring, and so do its neighbours.
pub record IsPlaced (ns : List Node) (end p : ℕ) : Type 0 where
  pub place : p < length ns
  pub newer : newer_at ns p < length ns
  pub older : older_at ns p < length ns
  pub within : p < end

-- What is left is sound again, so many places with these entries.
pub record Leaves (end : ℕ) (new : List Node) (kept entries : List (ℕ × ℕ)) (count : ℕ) : Type 0 where
  pub left : List ℕ
  pub is_sound : IsSound new end left kept
  pub names : named new left ≡ entries
  pub many : length left ≡ count

pub closed : (end : ℕ) (new : List Node) (kept entries : List (ℕ × ℕ)) (count : ℕ) → Leaves end new kept entries count → IsSound new end (followed new end count) kept
closed end new kept entries count l = subst (λ (ps : List ℕ). IsSound new end ps kept) (sym (follows new end count l.left l.is_sound.ring l.many)) l.is_sound

pub closed_names : (end : ℕ) (new : List Node) (kept entries : List (ℕ × ℕ)) (count : ℕ) → Leaves end new kept entries count → named new (followed new end count) ≡ entries
closed_names end new kept entries count l = ap (λ (ps : List ℕ). named new ps) (follows new end count l.left l.is_sound.ring l.many) ∙ l.names

module _ (ns : List Node) (end : ℕ) (ps : List ℕ) (places : List (ℕ × ℕ)) (sound : IsSound ns end ps places) where
  pub placed : (k p : ℕ) → lookup (nat_eq k) (named ns ps) ≡ Some p → IsPlaced ns end p
  placed k p found =
      let s = stands p ps (found_key ns k p ps found).1 in
      let all = place_within ns end p s.before s.after (subst (λ (l : List ℕ). IsRing ns end l) s.split sound.ring) in
      record { place = all.0; newer = all.1; older = all.2; within = all.3 }

  -- where a place was taken out, the first one is in the ring
  pub first_left : (k p : ℕ) → lookup (nat_eq k) (named ns ps) ≡ Some p → older_at (unlinked ns p) end < length (unlinked ns p)
  first_left k p found =
      let s = stands p ps (found_key ns k p ps found).1 in
      first_within (unlinked ns p) end (s.before ++ s.after) (ring_unlinked ns end p s.before s.after (subst (λ (l : List ℕ). IsRing ns end l) s.split sound.ring))

  -- a key used anew
  pub promotes : (k p : ℕ) → lookup (nat_eq k) (named ns ps) ≡ Some p → Leaves end (linked (unlinked ns p) end p) places (promoted (nat_eq k) (named ns ps)) (length ps)
  promotes k p found =
      let key = found_key ns k p ps found in
      let s = stands p ps key.1 in
      let xs = s.before in
      let ys = s.after in
      let new : List Node = linked (unlinked ns p) end p in
      let ring = subst (λ (l : List ℕ). IsRing ns end l) s.split sound.ring in
      let distinct = subst (λ (l : List ℕ). IsDistinct nat_eq (keys_of (named ns l))) s.split sound.distinct in
      let at = subst (λ (l : List ℕ). lookup (nat_eq k) (named ns l) ≡ Some p) s.split found in
      let keys : (q : ℕ) → key_at new q ≡ key_at ns q = λ q. key_linked (unlinked ns p) end p q ∙ key_unlinked ns p q in
      let same : named new (p ∷ xs ++ ys) ≡ named ns (p ∷ xs ++ ys) = named_same ns new (p ∷ xs ++ ys) keys in
      let first : promoted (nat_eq k) (named ns ps) ≡ named ns (p ∷ xs ++ ys) = ap (λ (l : List ℕ). promoted (nat_eq k) (named ns l)) s.split ∙ named_first ns k p xs ys distinct at key.0 in
      let long : length (p ∷ xs ++ ys) ≡ length ps = longer xs ys p ∙ sym (ap (λ (l : List ℕ). length l) s.split) in
      record {
        left = p ∷ xs ++ ys;
        is_sound = record {
          some = sound.some;
          small = sound.small;
          few = subst (λ (n : ℕ). n ≤ end) (sym long) sound.few;
          ring = ring_linked (unlinked ns p) end p (xs ++ ys) (ring_unlinked ns end p xs ys ring) (place_within ns end p xs ys ring).3 (apart_unlinked ns end p xs ys ring);
          finds = λ q. sound.finds q ∙ ap (λ (l : List ℕ). lookup (nat_eq q) (named ns l)) s.split ∙ sym (looked_first ns q p xs ys distinct) ∙ ap (λ (l : List (ℕ × ℕ)). lookup (nat_eq q) l) (sym same);
          distinct = subst (λ (l : List (ℕ × ℕ)). IsDistinct nat_eq (keys_of l)) (sym same) (distinct_first ns p xs ys distinct);
          used = λ q is. listed_first q p xs ys (ap (listed q) (sym s.split) ∙ sound.used q (sym (used_linked (unlinked ns p) end p q ∙ used_unlinked ns p q) ∙ is));
        };
        names = same ∙ sym first;
        many = long;
      }
    where
      longer : (xs ys : List ℕ) (p : ℕ) → length (p ∷ xs ++ ys) ≡ length (xs ++ p ∷ ys)
      longer [] ys p = refl
      longer (x ∷ xs) ys p = ap suc (longer xs ys p)

  -- a key taken out
  pub takes : (k p : ℕ) (kept : List (ℕ × ℕ)) → lookup (nat_eq k) (named ns ps) ≡ Some p → ((q : ℕ) → lookup (nat_eq q) kept ≡ cond (nat_eq k q) None (lookup (nat_eq q) places))
      → Leaves end (without_key (unlinked ns p) p) kept (remove_entry (nat_eq k) (named ns ps)) (length ps - 1)
  takes k p kept found others =
      let key = found_key ns k p ps found in
      let s = stands p ps key.1 in
      let xs = s.before in
      let ys = s.after in
      let new : List Node = without_key (unlinked ns p) p in
      let ring = subst (λ (l : List ℕ). IsRing ns end l) s.split sound.ring in
      let distinct = subst (λ (l : List ℕ). IsDistinct nat_eq (keys_of (named ns l))) s.split sound.distinct in
      let keys : (q : ℕ) → key_at new q ≡ key_at ns q = λ q. key_without (unlinked ns p) p q ∙ key_unlinked ns p q in
      let same : named new (xs ++ ys) ≡ named ns (xs ++ ys) = named_same ns new (xs ++ ys) keys in
      let gone : remove_entry (nat_eq k) (named ns ps) ≡ named ns (xs ++ ys) =
      ap (λ (l : List ℕ). remove_entry (nat_eq k) (named ns l)) s.split ∙ ap (λ (n : ℕ). remove_entry (nat_eq n) (named ns (xs ++ p ∷ ys))) (sym key.0) ∙ named_without ns p xs ys distinct in
      let more : length ps ≡ suc (length (xs ++ ys)) = ap (λ (l : List ℕ). length l) s.split ∙ shorter xs ys in
      let few = sound.few in
      record {
        left = xs ++ ys;
        is_sound = record {
          some = sound.some;
          small = sound.small;
          few = omega (arith, more, few);
          ring = ring_without (unlinked ns p) end p (xs ++ ys) (ring_unlinked ns end p xs ys ring);
          finds = λ q. others q ∙ ap (λ (o : Option ℕ). cond (nat_eq k q) None o) (sound.finds q) ∙ sym (lookup-remove_entry nat_eq_equiv (nat_eq k) (nat_eq_equiv.congr k) q (named ns ps) sound.distinct)
              ∙ ap (λ (l : List (ℕ × ℕ)). lookup (nat_eq q) l) (gone ∙ sym same);
          distinct = subst (λ (l : List (ℕ × ℕ)). IsDistinct nat_eq (keys_of l)) (sym same) (IsDistinct-tail nat_eq (key_at ns p) (keys_of (named ns (xs ++ ys))) (distinct_first ns p xs ys distinct));
          used = λ q is. still q (q == p) refl is;
        };
        names = same ∙ sym gone;
        many = omega (arith, more);
      }
    where
      shorter : (xs ys : List ℕ) → length (xs ++ p ∷ ys) ≡ suc (length (xs ++ ys))
      shorter [] ys = refl
      shorter (x ∷ xs) ys = ap suc (shorter xs ys)

      still : (q : ℕ) (b : Bool) → (q == p) ≡ b → is_used_at (without_key (unlinked ns p) p) q ≡ true
          → listed q ((stands p ps (found_key ns k p ps found).1).before ++ (stands p ps (found_key ns k p ps found).1).after) ≡ true
      still q b test is =
          let s = stands p ps (found_key ns k p ps found).1 in
          let lt = subst (λ (n : ℕ). p < n) (sym (length_unlinked ns p)) (placed k p found).place in
          by b test (sym (used_without (unlinked ns p) p q lt) ∙ is)
        where
          by : (d : Bool) → (q == p) ≡ d → (if q == p then false else is_used_at (unlinked ns p) q) ≡ true
              → listed q ((stands p ps (found_key ns k p ps found).1).before ++ (stands p ps (found_key ns k p ps found).1).after) ≡ true
          by true test is = absurd (cc (sym (if_true (q == p) false (is_used_at (unlinked ns p) q) test) ∙ is))
          by false test is =
              let s = stands p ps (found_key ns k p ps found).1 in
              let was : is_used_at ns q ≡ true = sym (used_unlinked ns p q) ∙ sym (if_false (q == p) false (is_used_at (unlinked ns p) q) test) ∙ is in
              listed_without q p s.before s.after test (ap (listed q) (sym s.split) ∙ sound.used q was)

  -- a new key
  pub adds : (k p : ℕ) (kept : List (ℕ × ℕ)) → lookup (nat_eq k) (named ns ps) ≡ None → length ps < end → p < end → IsFree p (named ns ps) → ((q : ℕ) → lookup (nat_eq q) kept ≡ cond (nat_eq k q) (Some p) (lookup (nat_eq q) places))
      → Leaves end (linked (with_key ns p k) end p) kept ((k, p) ∷ named ns ps) (suc (length ps))
  adds k p kept none room within free others =
      let apart = free_apart ns p ps free in
      let long = sound.ring.long in
      let lt : p < length ns = omega (arith, within, long) in
      let new : List Node = linked (with_key ns p k) end p in
      let key : key_at new p ≡ k = key_linked (with_key ns p k) end p p ∙ key_with ns p k p lt ∙ if_true (p == p) k (key_at ns p) (itself p) in
      let rest : named new ps ≡ named ns ps = named_same (with_key ns p k) new ps (λ q. key_linked (with_key ns p k) end p q) ∙ named_with ns p k ps lt apart in
      let same : named new (p ∷ ps) ≡ (k, p) ∷ named ns ps = λ i. (key i, p) ∷ rest i in
      record {
        left = p ∷ ps;
        is_sound = record {
          some = sound.some;
          small = sound.small;
          few = omega (arith, room);
          ring = ring_linked (with_key ns p k) end p ps (ring_with ns end p k ps sound.ring) within apart;
          finds = λ q. others q ∙ ap (λ (o : Option ℕ). cond (nat_eq k q) (Some p) o) (sound.finds q) ∙ ap (λ (b : Bool). cond b (Some p) (lookup (nat_eq q) (named ns ps))) (turned k q)
              ∙ ap (λ (l : List (ℕ × ℕ)). lookup (nat_eq q) l) (sym same);
          distinct = subst (λ (l : List (ℕ × ℕ)). IsDistinct nat_eq (keys_of l)) (sym same) (IsDistinct-cons nat_eq k (keys_of (named ns ps)) (absent_apart k (named ns ps) none) sound.distinct);
          used = λ q is. now q (q == p) refl (sym (used_linked (with_key ns p k) end p q ∙ used_with ns p k q lt) ∙ is);
        };
        names = same;
        many = refl;
      }
    where
      now : (q : ℕ) (b : Bool) → (q == p) ≡ b → (if q == p then true else is_used_at ns q) ≡ true → (if q == p then true else listed q ps) ≡ true
      now q true test is = if_true (q == p) true (listed q ps) test
      now q false test is = if_false (q == p) true (listed q ps) test ∙ sound.used q (sym (if_false (q == p) true (is_used_at ns q) test) ∙ is)

none_distinct : IsDistinct nat_eq []
unfolding IsDistinct
none_distinct = tt

-- blank places, in no ring
pub fresh : (end : ℕ) (items : List Node) (entries : List (ℕ × ℕ)) (first : Node) → first.newer ≡ end → first.older ≡ end → first.is_used ≡ false → items ≡ replicate (end + 1) first → 0 < end → end < 4294967296 → entries ≡ []
    → IsSound items end [] entries
fresh end items entries first newer older unused same some small empty =
    record {
      some = some;
      small = small;
      few = omega arith;
      ring = record {
        long = long;
        within = tt;
        apart = tt;
        links = (ap (λ (n : Node). n.older) (at end (omega arith)) ∙ older, ap (λ (n : Node). n.newer) (at end (omega arith)) ∙ newer);
      };
      finds = λ key. ap (λ (l : List (ℕ × ℕ)). lookup (nat_eq key) l) empty;
      distinct = none_distinct;
      used = λ p is. absurd (cc (sym (none p (nat_lt p (end + 1)) refl) ∙ is));
    }
  where
    long : length items ≡ end + 1
    long = ap (λ (l : List Node). length l) same ∙ length-replicate (end + 1) first

    at : (p : ℕ) → p < end + 1 → get_or items p blank ≡ first
    at p lt = ap (λ (l : List Node). get_or l p blank) same ∙ get_or-replicate (end + 1) p first blank lt

    none : (p : ℕ) (b : Bool) → nat_lt p (end + 1) ≡ b → is_used_at items p ≡ false
    none p true lt = let is : p < end + 1 = grind rules in ap (λ (n : Node). n.is_used) (at p is) ∙ unused
    none p false not =
        let past : end + 1 ≤ p = grind (rules, arith) in
        ap (λ (n : Node). n.is_used) (get_or_past items p blank (subst (λ (n : ℕ). n ≤ p) (sym long) past))
