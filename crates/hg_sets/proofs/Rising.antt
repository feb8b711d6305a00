-- Strictly rising lists, by recursion, and what the sets that they stand for have in common.
use Rattle.std.proofs.Common.{◌≡◌, ℕ, zero, suc, ◌+◌, ◌<◌, ◌≤◌, Bool, true, false, nat_eq, ◌&&◌, List, [], ◌∷◌, ◌++◌, length, get_or, drop, filter, cond, refl, sym, ap, subst, ◌⊎◌, ⊎_elim, ◌∙◌, arith, add-one, append_assoc, append-nil, nat_lt, if◌then◌else◌, insert, Result, Ok, Err, MatchResult}
use Rattle.std.specs.Ordering.{nat_cmp}
use Rattle.std.specs.List.{list_all, AllByRecursion}
use Rattle.std.specs.List.Sorted.{IsStrictlyIncreasing, IsBinarySearchResult}
use Rattle.std.proofs.lemmas.List.Sorted.{searched}
use Rattle.std.proofs.lemmas.Bool.{ne_eqb, eq-eqb, eqb-false, ltb-true, ltb-false, lt-ltb, le-ltb, cases_eq, cond_both}
use Rattle.std.proofs.lemmas.List.Elements.{All-from_recursion}
use Rattle.std.proofs.lemmas.List.{drop_more, drop_all, at_drop_all}
use Rattle.hg_model.specs.Sets.{common, contains, with_member}

-- each number is below all later ones
abbrev pub Rises : List ℕ → Type 0
Rises [] = Unit {0}
Rises (x ∷ xs) = AllByRecursion (λ y. x < y) xs × Rises xs

all_above : (x y : ℕ) (xs : List ℕ) → x < y → AllByRecursion (λ z. y < z) xs → AllByRecursion (λ z. x < z) xs
all_above x y [] lt h = tt
all_above x y (z ∷ zs) lt h = let below = h.0 in (omega arith, all_above x y zs lt h.1)

increasing_tail : (x : ℕ) (xs : List ℕ) → IsStrictlyIncreasing (x ∷ xs) → IsStrictlyIncreasing xs
increasing_tail x xs h k lt = let at : get_or (x ∷ xs) (suc k) 0 < get_or (x ∷ xs) (suc k + 1) 0 = h (suc k) (omega arith) in rw add-one (rw add-one at at)

pub rises : (xs : List ℕ) → IsStrictlyIncreasing xs → Rises xs
rises [] h = tt
rises (x ∷ []) h = (tt, tt)
rises (x ∷ y ∷ xs) h =
    let first : x < y = h 0 (omega arith) in
    let rest = rises (y ∷ xs) (increasing_tail x (y ∷ xs) h) in
    ((first, all_above x y xs first rest.0), rest)

rises_tail : (n : ℕ) (xs : List ℕ) → Rises xs → Rises (drop n xs)
rises_tail zero xs h = h
rises_tail (suc n) [] h = tt
rises_tail (suc n) (x ∷ xs) h = rises_tail n xs h.1

-- a rising list from i on: an element, and those above it
pub rises_at : (xs : List ℕ) (i : ℕ) → Rises xs → i < length xs → Rises (get_or xs i 0 ∷ drop (i + 1) xs)
rises_at xs i h lt = rw (drop_more xs i 0 lt) at (rises_tail i xs h)

-- no number of a list is one that all of the list are above
lacks_lower : (x : ℕ) (ys : List ℕ) → AllByRecursion (λ y. x < y) ys → contains ys x ≡ false
lacks_lower x [] h = refl
lacks_lower x (y ∷ ys) h =
    let above = h.0 in
    rw (ne_eqb y x (λ e. omega arith)) (lacks_lower x ys h.1)

-- a number below all members may leave the others
subset_above : (o : ℕ) (os ms : List ℕ) → AllByRecursion (λ m. o < m) ms → list_all (contains (o ∷ os)) ms ≡ list_all (contains os) ms
subset_above o os [] h = refl
subset_above o os (m ∷ ms) h =
    let above = h.0 in
    rw (ne_eqb o m (λ e. omega arith)) (ap (λ b. contains os m && b) (subset_above o os ms h.1))

subset_skipped : (m o : ℕ) (ms os : List ℕ) → Rises (m ∷ ms) → o < m → list_all (contains os) (m ∷ ms) ≡ list_all (contains (o ∷ os)) (m ∷ ms)
subset_skipped m o ms os h lt = sym (subset_above o os (m ∷ ms) (lt, all_above o m ms lt h.0))

subset_matched : (m o : ℕ) (ms os : List ℕ) → Rises (m ∷ ms) → m ≡ o → list_all (contains os) ms ≡ list_all (contains (o ∷ os)) (m ∷ ms)
subset_matched m o ms os h e =
    rw (eq-eqb o m (sym e)) (sym (subset_above o os ms (subst (λ n. AllByRecursion (λ y. n < y) ms) e h.0)))

subset_missed : (m o : ℕ) (ms os : List ℕ) → Rises (o ∷ os) → m < o → list_all (contains (o ∷ os)) (m ∷ ms) ≡ false
subset_missed m o ms os h lt = ap (λ b. b && list_all (contains (o ∷ os)) ms) (lacks_lower m (o ∷ os) (lt, all_above m o os lt h.0))

-- one step through two rising lists, which stand at i and k
module _ (members others : List ℕ) (i k : ℕ) (members_rise : IsStrictlyIncreasing members) (others_rise : IsStrictlyIncreasing others) (in_members : i < length members) (in_others : k < length others) where
  here : Rises (get_or members i 0 ∷ drop (i + 1) members)
  here = rises_at members i (rises members members_rise) in_members

  there : Rises (get_or others k 0 ∷ drop (k + 1) others)
  there = rises_at others k (rises others others_rise) in_others

  pub subset-skipped : get_or others k 0 < get_or members i 0 → list_all (contains (drop (k + 1) others)) (drop i members) ≡ list_all (contains (drop k others)) (drop i members)
  subset-skipped lt = rw (drop_more others k 0 in_others, drop_more members i 0 in_members)
      (subset_skipped (get_or members i 0) (get_or others k 0) (drop (i + 1) members) (drop (k + 1) others) here lt)

  pub subset-matched : get_or members i 0 ≡ get_or others k 0 → list_all (contains (drop (k + 1) others)) (drop (i + 1) members) ≡ list_all (contains (drop k others)) (drop i members)
  subset-matched e = rw (drop_more others k 0 in_others, drop_more members i 0 in_members)
      (subset_matched (get_or members i 0) (get_or others k 0) (drop (i + 1) members) (drop (k + 1) others) here e)

  pub subset-missed : get_or members i 0 < get_or others k 0 → list_all (contains (drop k others)) (drop i members) ≡ false
  subset-missed lt = rw (drop_more others k 0 in_others, drop_more members i 0 in_members)
      (subset_missed (get_or members i 0) (get_or others k 0) (drop (i + 1) members) (drop (k + 1) others) there lt)

-- where no member is left all were found
pub subset_done : (members others : List ℕ) (i : ℕ) → i ≡ length members → true ≡ list_all (contains others) (drop i members)
subset_done members others i e = sym (at_drop_all (list_all (contains others)) members i (omega arith))

-- where none of the others is left
pub subset_at_end : (members others : List ℕ) (i k : ℕ) → i ≤ length members → length others ≤ k → nat_eq i (length members) ≡ list_all (contains (drop k others)) (drop i members)
subset_at_end members others i k within past =
    ⊎_elim
    (λ e. eq-eqb i (length members) e ∙ subset_done members (drop k others) i e)
    (λ ne.
    let lt : i < length members = omega arith in
    ne_eqb i (length members) ne ∙ rw (drop_all k others past, drop_more members i 0 lt) refl)
    (cases_eq i (length members))

-- what both sets have, where the others begin with one that is below all members
common_above : (o : ℕ) (os ms : List ℕ) → AllByRecursion (λ m. o < m) ms → common ms (o ∷ os) ≡ common ms os
common_above o os [] h = refl
common_above o os (m ∷ ms) h =
    let above = h.0 in
    rw (ne_eqb o m (λ e. omega arith)) (ap (λ rest. cond (contains os m) (m ∷ rest) rest) (common_above o os ms h.1))

common_passed : (m o : ℕ) (ms os : List ℕ) → Rises (o ∷ os) → m < o → common (m ∷ ms) (o ∷ os) ≡ common ms (o ∷ os)
common_passed m o ms os h lt = ap (λ b. cond b (m ∷ common ms (o ∷ os)) (common ms (o ∷ os))) (lacks_lower m (o ∷ os) (lt, all_above m o os lt h.0))

common_skipped : (m o : ℕ) (ms os : List ℕ) → Rises (m ∷ ms) → o < m → common (m ∷ ms) (o ∷ os) ≡ common (m ∷ ms) os
common_skipped m o ms os h lt = common_above o os (m ∷ ms) (lt, all_above o m ms lt h.0)

common_matched : (m o : ℕ) (ms os : List ℕ) → Rises (m ∷ ms) → m ≡ o → common (m ∷ ms) (o ∷ os) ≡ m ∷ common ms os
common_matched m o ms os h e =
    rw (eq-eqb o m (sym e)) (ap (λ rest. m ∷ rest) (common_above o os ms (subst (λ n. AllByRecursion (λ y. n < y) ms) e h.0)))

pub common-nil : (ms : List ℕ) → common ms [] ≡ []
common-nil [] = refl
common-nil (m ∷ ms) = common-nil ms

-- one step of writing what two rising lists have in common, which stand at i and k
module _ (members others kept all : List ℕ) (i k : ℕ) (members_rise : IsStrictlyIncreasing members) (others_rise : IsStrictlyIncreasing others) (in_members : i < length members) (in_others : k < length others)
    (so_far : kept ++ common (drop i members) (drop k others) ≡ all) where
  opened : kept ++ common (get_or members i 0 ∷ drop (i + 1) members) (get_or others k 0 ∷ drop (k + 1) others) ≡ all
  opened = (λ j. kept ++ common (sym (drop_more members i 0 in_members) j) (sym (drop_more others k 0 in_others) j)) ∙ so_far

  pub common-passed : get_or members i 0 < get_or others k 0 → kept ++ common (drop (i + 1) members) (drop k others) ≡ all
  common-passed lt =
      let step = common_passed (get_or members i 0) (get_or others k 0) (drop (i + 1) members) (drop (k + 1) others) (rises_at others k (rises others others_rise) in_others) lt in
      ap (λ os. kept ++ common (drop (i + 1) members) os) (drop_more others k 0 in_others) ∙ ap (λ rest. kept ++ rest) (sym step) ∙ opened

  pub common-skipped : get_or others k 0 < get_or members i 0 → kept ++ common (drop i members) (drop (k + 1) others) ≡ all
  common-skipped lt =
      let step = common_skipped (get_or members i 0) (get_or others k 0) (drop (i + 1) members) (drop (k + 1) others) (rises_at members i (rises members members_rise) in_members) lt in
      ap (λ ms. kept ++ common ms (drop (k + 1) others)) (drop_more members i 0 in_members) ∙ ap (λ rest. kept ++ rest) (sym step) ∙ opened

  pub common-matched : get_or members i 0 ≡ get_or others k 0 → (kept ++ get_or members i 0 ∷ []) ++ common (drop (i + 1) members) (drop (k + 1) others) ≡ all
  common-matched e =
      let step = common_matched (get_or members i 0) (get_or others k 0) (drop (i + 1) members) (drop (k + 1) others) (rises_at members i (rises members members_rise) in_members) e in
      append_assoc kept (get_or members i 0 ∷ []) (common (drop (i + 1) members) (drop (k + 1) others)) ∙ ap (λ rest. kept ++ rest) (sym step) ∙ opened

-- nothing is in common with what is left, where nothing is left on one side
pub common_end : (members others kept all : List ℕ) (i k : ℕ) → (length members ≤ i) ⊎ (length others ≤ k) → kept ++ common (drop i members) (drop k others) ≡ all → kept ≡ all
common_end members others kept all i k past so_far =
    sym (append-nil kept) ∙ ap (λ rest. kept ++ rest)
    (⊎_elim (λ h. sym (ap (λ ms. common ms (drop k others)) (drop_all i members h))) (λ h. sym (ap (common (drop i members)) (drop_all k others h) ∙ common-nil (drop i members))) past) ∙ so_far

-- back to the law by index
pub increasing : (xs : List ℕ) → Rises xs → IsStrictlyIncreasing xs
increasing [] h k lt = absurd (omega arith)
increasing (x ∷ []) h k lt = absurd (omega arith)
increasing (x ∷ y ∷ xs) h zero lt = h.0.0
increasing (x ∷ y ∷ xs) h (suc k) lt = rw add-one (rw add-one at (increasing (y ∷ xs) h.1 k (omega arith)))

-- what is kept of a rising list rises
all_kept : (p : ℕ → Bool) (x : ℕ) (xs : List ℕ) → AllByRecursion (λ y. x < y) xs → AllByRecursion (λ y. x < y) (filter p xs)
all_kept p x [] h = tt
all_kept p x (y ∷ ys) h = elim (p y) as (λ b. AllByRecursion (λ z. x < z) (cond b (y ∷ filter p ys) (filter p ys))) [
  | true ↦ (h.0, all_kept p x ys h.1)
  | false ↦ all_kept p x ys h.1
]

kept_rises : (p : ℕ → Bool) (xs : List ℕ) → Rises xs → Rises (filter p xs)
kept_rises p [] h = tt
kept_rises p (x ∷ xs) h = elim (p x) as (λ b. Rises (cond b (x ∷ filter p xs) (filter p xs))) [
  | true ↦ (all_kept p x xs h.0, kept_rises p xs h.1)
  | false ↦ kept_rises p xs h.1
]

pub common-increasing : (xs ys : List ℕ) → IsStrictlyIncreasing xs → IsStrictlyIncreasing (common xs ys)
common-increasing xs ys h = increasing (common xs ys) (kept_rises (contains ys) xs (rises xs h))

-- one member more
all_joined : (x n : ℕ) (xs : List ℕ) → x < n → AllByRecursion (λ y. x < y) xs → AllByRecursion (λ y. x < y) (with_member xs n)
all_joined x n [] lt h = (lt, tt)
all_joined x n (y ∷ ys) lt h =
    cond_both (nat_lt n y) (n ∷ y ∷ ys) (if nat_eq n y then y ∷ ys else y ∷ with_member ys n) (AllByRecursion (λ z. x < z))
    (λ _. (lt, h))
    (λ _. cond_both (nat_eq n y) (y ∷ ys) (y ∷ with_member ys n) (AllByRecursion (λ z. x < z)) (λ _. h) (λ _. (h.0, all_joined x n ys lt h.1)))

joined_rises : (n : ℕ) (xs : List ℕ) → Rises xs → Rises (with_member xs n)
joined_rises n [] h = (tt, tt)
joined_rises n (x ∷ xs) h =
    cond_both (nat_lt n x) (n ∷ x ∷ xs) (if nat_eq n x then x ∷ xs else x ∷ with_member xs n) Rises
    (λ below. let lt = ltb-true n x below in ((lt, all_above n x xs lt h.0), h))
    (λ above. cond_both (nat_eq n x) (x ∷ xs) (x ∷ with_member xs n) Rises (λ _. h)
    (λ other. let le = ltb-false n x above in let ne = eqb-false n x other in (all_joined x n xs (omega arith) h.0, joined_rises n xs h.1)))

pub with_member-increasing : (xs : List ℕ) (n : ℕ) → IsStrictlyIncreasing xs → IsStrictlyIncreasing (with_member xs n)
with_member-increasing xs n h = increasing (with_member xs n) (joined_rises n xs (rises xs h))

-- a member that is there already
pub with_member-present : (xs : List ℕ) (n i : ℕ) → IsStrictlyIncreasing xs → i < length xs → get_or xs i 0 ≡ n → with_member xs n ≡ xs
with_member-present xs n i h lt e = present xs i (rises xs h) lt e
  where
    present : (xs : List ℕ) (i : ℕ) → Rises xs → i < length xs → get_or xs i 0 ≡ n → with_member xs n ≡ xs
    present [] i h lt e = absurd (omega arith)
    present (x ∷ xs) zero h lt e = rw (le-ltb n x (omega arith), eq-eqb n x (sym e)) refl
    present (x ∷ xs) (suc i) h lt e =
        let above = All-from_recursion (λ y. x < y) xs h.0 i 0 (omega arith) in
        rw (le-ltb n x (omega arith), ne_eqb n x (λ same. omega arith)) (ap (λ rest. x ∷ rest) (present xs i h.1 (omega arith) e))

-- and one that is not goes to its place
pub with_member-absent : (xs : List ℕ) (n i : ℕ) → i ≤ length xs → ((k : ℕ) → k < i → get_or xs k 0 < n) → ((k : ℕ) → i ≤ k → k < length xs → n < get_or xs k 0) → with_member xs n ≡ insert xs i n
with_member-absent [] n zero within below above = refl
with_member-absent [] n (suc i) within below above = absurd (omega arith)
with_member-absent (x ∷ xs) n zero within below above = rw (lt-ltb n x (above 0 (omega arith) (omega arith))) refl
with_member-absent (x ∷ xs) n (suc i) within below above =
    let first = below 0 (omega arith) in
    rw (le-ltb n x (omega arith), ne_eqb n x (λ same. omega arith)) (ap (λ rest. x ∷ rest)
    (with_member-absent xs n i (omega arith) (λ k lt. below (suc k) (omega arith)) (λ k le lt. above (suc k) (omega arith) (omega arith))))

-- rising lists do not fall
pub not_falling : (xs : List ℕ) → IsStrictlyIncreasing xs → (i j : ℕ) → i ≤ j → j < length xs → get_or xs i 0 ≤ get_or xs j 0
not_falling xs h i j le lt = falls xs (rises xs h) i j le lt
  where
    falls : (xs : List ℕ) → Rises xs → (i j : ℕ) → i ≤ j → j < length xs → get_or xs i 0 ≤ get_or xs j 0
    falls [] h i j le lt = absurd (omega arith)
    falls (x ∷ xs) h zero zero le lt = omega arith
    falls (x ∷ xs) h zero (suc j) le lt = let above = All-from_recursion (λ y. x < y) xs h.0 j 0 (omega arith) in omega arith
    falls (x ∷ xs) h (suc i) zero le lt = absurd (omega arith)
    falls (x ∷ xs) h (suc i) (suc j) le lt = falls xs h.1 i j (omega arith) (omega arith)

-- what a binary search in a rising list says of the set with the sought number
pub with_member-searched : (xs : List ℕ) (n : ℕ) (r : Result ℕ ℕ) → IsStrictlyIncreasing xs → IsBinarySearchResult (λ y. nat_cmp y n) xs r →
    MatchResult r (λ _. with_member xs n ≡ xs) (λ at. with_member xs n ≡ insert xs at n)
with_member-searched xs n (Ok i) h found = let at = searched xs n (Ok i) found (not_falling xs h) in with_member-present xs n i h at.0 at.1
with_member-searched xs n (Err i) h found = let at = searched xs n (Err i) found (not_falling xs h) in with_member-absent xs n i at.0 at.1 at.2
