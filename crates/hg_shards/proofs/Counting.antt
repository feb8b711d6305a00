-- How many different sets a list has depends on its members alone.
use Rattle.std.proofs.Common.{◌≡◌, ℕ, zero, suc, ◌<◌, ◌≤◌, Bool, true, false, cond, ◌||◌, nat_eq, List, [], ◌∷◌, ◌++◌, length, get_or, Contains, refl, sym, ap, ◌∙◌, subst, ⊎_elim, arith, eqb-true}
use Rattle.std.proofs.lemmas.Bool.{false≢true, or_left, or_right, or_cases, or_parts, and_parts, false_from_ne_true}
use Rattle.std.proofs.lemmas.Cmp.{nat_list_eq_equiv}
use Rattle.std.proofs.lemmas.List.Folds.{list_any-append}
use Rattle.std.proofs.lemmas.Map.Made.{length-from_keys, length-le_from_is_member}
use Rattle.std.specs.Cmp.{IsEquivalence}
use Rattle.std.specs.Cmp.Lexicographic.{pointwise}
use Rattle.std.specs.List.{AllByRecursion, IsDistinct}
use Rattle.std.specs.Set.{distinct_count, unique_keys}
use Rattle.hg_shards.specs.Asking.{has_set}

abbrev same : List ℕ → List ℕ → Bool
same = pointwise nat_eq

laws : IsEquivalence (pointwise nat_eq)
laws = nat_list_eq_equiv

pub same_true : (xs ys : List ℕ) → pointwise nat_eq xs ys ≡ true → xs ≡ ys
same_true [] [] h = refl
same_true [] (y ∷ ys) h = absurd (false≢true h)
same_true (x ∷ xs) [] h = absurd (false≢true h)
same_true (x ∷ xs) (y ∷ ys) h = let parts = and_parts (nat_eq x y) (pointwise nat_eq xs ys) h in λ i. eqb-true x y parts.0 i ∷ same_true xs ys parts.1 i

pub contains_set : (sets : List (List ℕ)) (set : List ℕ) → has_set sets set ≡ true → Contains sets set
contains_set [] set h = absurd (false≢true h)
contains_set (x ∷ sets) set h =
    ⊎_elim
    (λ here. (0, omega arith, sym (same_true set x here)))
    (λ later. let found = contains_set sets set later in (suc found.0, (let lt = found.1 in omega arith), found.2))
    (or_cases (pointwise nat_eq set x) (has_set sets set) h)

pub set_at_place : (sets : List (List ℕ)) (set : List ℕ) (id : ℕ) → id < length sets → get_or sets id [] ≡ set → has_set sets set ≡ true
set_at_place [] set id lt is = absurd (omega arith)
set_at_place (x ∷ sets) set zero lt is = or_left (pointwise nat_eq set x) _ (subst (λ (s : List ℕ). pointwise nat_eq s x ≡ true) is (laws.refl x))
set_at_place (x ∷ sets) set (suc id) lt is = or_right (pointwise nat_eq set x) _ (set_at_place sets set id (omega arith) is)

pub absent_set : (sets : List (List ℕ)) (set : List ℕ) → (Contains sets set → ⊥) → has_set sets set ≡ false
absent_set sets set none = false_from_ne_true (has_set sets set) (λ h. none (contains_set sets set h))

-- a set that is the same as a member is a member
pub alike_member : (sets : List (List ℕ)) (set other : List ℕ) → pointwise nat_eq other set ≡ true → has_set sets set ≡ true → has_set sets other ≡ true
alike_member sets set other h has = subst (λ (s : List ℕ). has_set sets s ≡ true) (sym (same_true other set h)) has

apart : (x set : List ℕ) (sets : List (List ℕ)) → AllByRecursion (λ y. pointwise nat_eq x y ≡ false) sets → pointwise nat_eq x set ≡ false → AllByRecursion (λ y. pointwise nat_eq x y ≡ false) (sets ++ set ∷ [])
apart x set [] h other = (other, tt)
apart x set (y ∷ sets) h other = (h.0, apart x set sets h.1 other)

pub distinct_push : (sets : List (List ℕ)) (set : List ℕ) → IsDistinct (pointwise nat_eq) sets → has_set sets set ≡ false → IsDistinct (pointwise nat_eq) (sets ++ set ∷ [])
unfolding IsDistinct
distinct_push [] set d absent = (tt, tt)
distinct_push (x ∷ sets) set d absent =
    let parts = or_parts (pointwise nat_eq set x) (has_set sets set) absent in
    (apart x set sets d.0 (laws.symm x set ∙ parts.0), distinct_push sets set d.1 parts.1)

pub distinct_one : (set : List ℕ) → IsDistinct (pointwise nat_eq) (set ∷ [])
unfolding IsDistinct
distinct_one set = (tt, tt)

-- ---- each set once

pub unique_members : (sets : List (List ℕ)) (q : List ℕ) → has_set (unique_keys (pointwise nat_eq) sets) q ≡ has_set sets q
unique_members [] q = refl
unique_members (x ∷ sets) q = by (has_set sets x) refl (unique_members sets q)
  where
    known : (b : Bool) → pointwise nat_eq q x ≡ b → has_set sets x ≡ true → has_set sets q ≡ (b || has_set sets q)
    known true is has = alike_member sets x q is has
    known false other has = refl

    by : (b : Bool) → has_set sets x ≡ b → has_set (unique_keys (pointwise nat_eq) sets) q ≡ has_set sets q → has_set (cond b (unique_keys (pointwise nat_eq) sets) (x ∷ unique_keys (pointwise nat_eq) sets)) q ≡ (pointwise nat_eq q x || has_set sets q)
    by true has h = h ∙ known (pointwise nat_eq q x) refl has
    by false absent h = ap (λ b. pointwise nat_eq q x || b) h

apart_from : (x : List ℕ) (sets : List (List ℕ)) → has_set sets x ≡ false → AllByRecursion (λ y. pointwise nat_eq x y ≡ false) sets
apart_from x [] h = tt
apart_from x (y ∷ sets) h = let parts = or_parts (pointwise nat_eq x y) (has_set sets x) h in (parts.0, apart_from x sets parts.1)

pub unique_distinct : (sets : List (List ℕ)) → IsDistinct (pointwise nat_eq) (unique_keys (pointwise nat_eq) sets)
unfolding IsDistinct
unique_distinct [] = tt
unique_distinct (x ∷ sets) = by (has_set sets x) refl (unique_distinct sets)
  where
    by : (b : Bool) → has_set sets x ≡ b → IsDistinct (pointwise nat_eq) (unique_keys (pointwise nat_eq) sets) → IsDistinct (pointwise nat_eq) (cond b (unique_keys (pointwise nat_eq) sets) (x ∷ unique_keys (pointwise nat_eq) sets))
    by true has h = h
    by false absent h = (apart_from x (unique_keys (pointwise nat_eq) sets) (unique_members sets x ∙ absent), h)

pub same_count : (xs ys : List (List ℕ)) → ((q : List ℕ) → has_set xs q ≡ has_set ys q) → distinct_count (pointwise nat_eq) xs ≡ distinct_count (pointwise nat_eq) ys
same_count xs ys h = length-from_keys laws (unique_keys (pointwise nat_eq) xs) ys (unique_distinct xs) (λ q. unique_members xs q ∙ h q)

pub counted : (xs ys : List (List ℕ)) → IsDistinct (pointwise nat_eq) xs → ((q : List ℕ) → has_set xs q ≡ has_set ys q) → length xs ≡ distinct_count (pointwise nat_eq) ys
counted xs ys d h = length-from_keys laws xs ys d h

-- different sets that are all among these
pub at_least : (xs ys : List (List ℕ)) → IsDistinct (pointwise nat_eq) xs → ((q : List ℕ) → has_set xs q ≡ true → has_set ys q ≡ true) → length xs ≤ distinct_count (pointwise nat_eq) ys
at_least xs ys d h = length-le_from_is_member laws xs (unique_keys (pointwise nat_eq) ys) d (λ q has. unique_members ys q ∙ h q has)

pub has_both : (xs ys : List (List ℕ)) (q : List ℕ) → has_set (xs ++ ys) q ≡ (has_set xs q || has_set ys q)
has_both xs ys q = list_any-append (pointwise nat_eq q) xs ys
