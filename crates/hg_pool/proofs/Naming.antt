-- The tables of a pool are such as a root can name.
use Rattle.std.proofs.Common.{◌≡◌, ◌<◌, ◌≤◌, ◌^◌, ◌||◌, ℕ, suc, Bool, true, false, List, [], ◌∷◌, map, get_or, refl, sym, subst, arith}
use Rattle.std.specs.List.{list_any}
use Rattle.std.proofs.lemmas.Bool.{eqb-true}
use Rattle.std.proofs.lemmas.Bool.Decides.{Decides-eqb}
use Rattle.std.proofs.lemmas.List.{length-map}
use Rattle.std.proofs.lemmas.Map.Made.{IsDistinct-from_AllPairs}
use Rattle.std.proofs.lemmas.Map.Steps.{length-le_from_distinct_below}
use Rattle.std.proofs.lemmas.Option.{get_or_from_slice_get, slice_get-get_or, slice_get_within}
use Rattle.std.proofs.Math.Dec.{eqb}
use Rattle.hg_pages.specs.Tables.{AreEntries}
use Rattle.hg_pages.proofs.Places.{found_at, in_order, placed_at}
use Rattle.hg_pool.specs.Tables.{AreBelow, FindsBelow, IsNameable}

-- by place and by look-up
pub finds_below : (slots : ℕ) (table : List (ℕ × ℕ)) → AreBelow slots table → FindsBelow slots table
finds_below slots table below page slot is =
    let at = placed_at table page slot is in
    let here = get_or_from_slice_get table at.0 (page, slot) (0, 0) at.1 in
    subst (λ (e : ℕ × ℕ). (e.0 < 2 ^ 54) × (e.1 < slots)) here (below at.0 (0, 0) (slice_get_within table at.0 (page, slot) at.1))

are_below : (slots : ℕ) (table : List (ℕ × ℕ)) → AreEntries table → FindsBelow slots table → AreBelow slots table
are_below slots table entries below i d lt =
    let e = get_or table i d in
    below e.0 e.1 (found_at table i e.0 e.1 (in_order table entries).rising (slice_get-get_or table i d lt))

slot_below : (slots q : ℕ) (table : List (ℕ × ℕ)) → AreBelow slots table → list_any (eqb q) (map (λ (e : ℕ × ℕ). e.1) table) ≡ true → q < slots
slot_below slots q [] below is = absurd (cc is)
slot_below slots q (e ∷ table) below is = first (eqb q e.1) refl is (slot_below slots q table (λ i d lt. below (suc i) d (omega (arith, lt))))
  where
    first : (b : Bool) → eqb q e.1 ≡ b → (b || list_any (eqb q) (map (λ (f : ℕ × ℕ). f.1) table)) ≡ true → (list_any (eqb q) (map (λ (f : ℕ × ℕ). f.1) table) ≡ true → q < slots) → q < slots
    first true test found rest = subst (λ (n : ℕ). n < slots) (sym (eqb-true q e.1 test)) (below 0 e (omega arith)).1
    first false test found rest = rest found

-- slots below a number that no two pages have are no more than that
pub is_nameable : (slots : ℕ) (table : List (ℕ × ℕ)) → AreEntries table → FindsBelow slots table → slots ≤ 1048576 → IsNameable slots table
is_nameable slots table entries finds most =
    let below = are_below slots table entries finds in
    let few = length-le_from_distinct_below (map (λ (e : ℕ × ℕ). e.1) table) slots (IsDistinct-from_AllPairs Decides-eqb (map (λ (e : ℕ × ℕ). e.1) table) entries.distinct) (λ q is. slot_below slots q table below is) in
    record { entries = entries; below = below; few = omega (arith, few, length-map table (λ (e : ℕ × ℕ). e.1)); most = most }
