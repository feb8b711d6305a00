-- What each step makes of the keys that callers see.
use Rattle.std.proofs.Common.{◌≡◌, ◌-◌, ◌<◌, ◌∙◌, ◌∷◌, ℕ, suc, nat_eq, cond, true, List, Some, None, length, sym, ap, subst}
use Rattle.std.specs.Map.{lookup, remove_entry}
use Rattle.lru.specs.LruCache.{LruCache, lru_cache, promoted}
use Rattle.hg_cache.specs.declared.node.Node.{Node}
use Rattle.hg_cache.specs.Entries.{IsFree, behind, has_place}
use Rattle.hg_cache.specs.Rings.{followed, linked, named, older_at, unlinked, with_key, without_key}
use Rattle.hg_cache.specs.Sound.{IsSound}
use Rattle.hg_cache.proofs.Linking.{first_within, length_followed, ring_with}
use Rattle.hg_cache.proofs.Naming.{length_named}
use Rattle.hg_cache.proofs.Neighbours.{IsBehind, behind_place}
use Rattle.hg_cache.proofs.Steps.{IsPlaced, Leaves, adds, closed, closed_names, first_left, placed, promotes, takes}

-- The parts are sound after a step, and callers see these keys.
pub record Became (end : ℕ) (new : List Node) (count : ℕ) (kept entries : List (ℕ × ℕ)) (cap : ℕ) : Type 0 where
  pub is_sound : IsSound new end (followed new end count) kept
  pub is_shown : lru_cache (named new (followed new end count)) end ≡ lru_cache entries cap

module _ (ns : List Node) (end count : ℕ) (places : List (ℕ × ℕ)) (sound : IsSound ns end (followed ns end count) places) (shown : LruCache ℕ ℕ) (view : lru_cache (named ns (followed ns end count)) end ≡ shown) where
  abbrev pub there : ℕ → ℕ → Type 0
  there k p = lookup (nat_eq k) shown.entries ≡ Some p

  inside : (k p : ℕ) → there k p → lookup (nat_eq k) (named ns (followed ns end count)) ≡ Some p
  inside k p is = ap (λ (x : LruCache ℕ ℕ). lookup (nat_eq k) x.entries) view ∙ is

  -- a key that the map finds is seen by callers
  pub seen : (k p : ℕ) → Some p ≡ lookup (nat_eq k) places → there k p
  seen k p is = ap (λ (x : LruCache ℕ ℕ). lookup (nat_eq k) x.entries) (sym view) ∙ sym (sound.finds k) ∙ sym is

  pub unseen : (k : ℕ) → None ≡ lookup (nat_eq k) places → lookup (nat_eq k) shown.entries ≡ None
  unseen k is = ap (λ (x : LruCache ℕ ℕ). lookup (nat_eq k) x.entries) (sym view) ∙ sym (sound.finds k) ∙ sym is

  pub place_of_key : (k p : ℕ) → there k p → IsPlaced ns end p
  place_of_key k p is = placed ns end (followed ns end count) places sound k p (inside k p is)

  pub first_of_left : (k p : ℕ) → there k p → older_at (unlinked ns p) end < length (unlinked ns p)
  first_of_left k p is = first_left ns end (followed ns end count) places sound k p (inside k p is)

  became : (new : List Node) (kept entries wanted : List (ℕ × ℕ)) (n m : ℕ) → n ≡ m → entries ≡ wanted → Leaves end new kept entries n → Became end new m kept wanted shown.cap
  became new kept entries wanted n m same are l =
      let left = subst (λ (k : ℕ). Leaves end new kept entries k) same l in
      record {
        is_sound = closed end new kept entries m left;
        is_shown = ap (λ (es : List (ℕ × ℕ)). lru_cache es end) (closed_names end new kept entries m left ∙ are) ∙ ap (λ (x : LruCache ℕ ℕ). lru_cache wanted x.cap) view;
      }

  pub became_promoted : (k p : ℕ) → there k p → Became end (linked (unlinked ns p) end p) count places (promoted (nat_eq k) shown.entries) shown.cap
  became_promoted k p is =
      became (linked (unlinked ns p) end p) places (promoted (nat_eq k) (named ns (followed ns end count))) (promoted (nat_eq k) shown.entries) (length (followed ns end count)) count (length_followed ns end count)
      (ap (λ (x : LruCache ℕ ℕ). promoted (nat_eq k) x.entries) view) (promotes ns end (followed ns end count) places sound k p (inside k p is))

  pub became_removed : (k p : ℕ) (kept : List (ℕ × ℕ)) → there k p → ((q : ℕ) → lookup (nat_eq q) kept ≡ cond (nat_eq k q) None (lookup (nat_eq q) places))
      → Became end (without_key (unlinked ns p) p) (count - 1) kept (remove_entry (nat_eq k) shown.entries) shown.cap
  became_removed k p kept is others =
      became (without_key (unlinked ns p) p) kept (remove_entry (nat_eq k) (named ns (followed ns end count))) (remove_entry (nat_eq k) shown.entries) (length (followed ns end count) - 1) (count - 1)
      (ap (λ (n : ℕ). n - 1) (length_followed ns end count)) (ap (λ (x : LruCache ℕ ℕ). remove_entry (nat_eq k) x.entries) view)
      (takes ns end (followed ns end count) places sound k p kept (inside k p is) others)

  -- how many keys there are
  pub many : length shown.entries ≡ count
  many = ap (λ (x : LruCache ℕ ℕ). length x.entries) (sym view) ∙ length_named ns (followed ns end count) ∙ length_followed ns end count

  pub became_inserted : (k p : ℕ) (kept : List (ℕ × ℕ)) → lookup (nat_eq k) shown.entries ≡ None → length shown.entries < shown.cap → p < shown.cap → IsFree p shown.entries
      → ((q : ℕ) → lookup (nat_eq q) kept ≡ cond (nat_eq k q) (Some p) (lookup (nat_eq q) places))
      → Became end (linked (with_key ns p k) end p) (suc count) kept ((k, p) ∷ shown.entries) shown.cap
  became_inserted k p kept none room within free others =
      let cap : end ≡ shown.cap = ap (λ (x : LruCache ℕ ℕ). x.cap) view in
      let long : length (followed ns end count) ≡ length shown.entries = length_followed ns end count ∙ sym many in
      became (linked (with_key ns p k) end p) kept ((k, p) ∷ named ns (followed ns end count)) ((k, p) ∷ shown.entries) (suc (length (followed ns end count))) (suc count)
      (ap suc (length_followed ns end count)) (ap (λ (x : LruCache ℕ ℕ). (k, p) ∷ x.entries) view)
      (adds ns end (followed ns end count) places sound k p kept
      (ap (λ (x : LruCache ℕ ℕ). lookup (nat_eq k) x.entries) view ∙ none)
      (subst (λ (n : ℕ). n < end) (sym long) (subst (λ (n : ℕ). length shown.entries < n) (sym cap) room))
      (subst (λ (n : ℕ). p < n) (sym cap) within)
      (subst (λ (x : LruCache ℕ ℕ). IsFree p x.entries) (sym view) free) others)

  pub first_of_new : (k p : ℕ) → older_at (with_key ns p k) end < length (with_key ns p k)
  first_of_new k p = first_within (with_key ns p k) end (followed ns end count) (ring_with ns end p k (followed ns end count) sound.ring)

  pub behind_shown : (p : ℕ) → has_place p shown.entries ≡ true → IsBehind ns end p (behind p shown.entries)
  behind_shown p has =
      subst (λ (x : LruCache ℕ ℕ). IsBehind ns end p (behind p x.entries)) view
      (behind_place ns end p (followed ns end count) sound.ring (ap (λ (x : LruCache ℕ ℕ). has_place p x.entries) view ∙ has))
