-- Entries by places, and by look-ups.
use Rattle.std.proofs.Common.{if◌then◌else◌, ◌≡◌, ◌≢◌, ◌⊎◌, inl, inr, ◌<◌, ◌+◌, ◌==◌, ◌||◌, ℕ, zero, suc, Bool, true, false, List, [], ◌∷◌, ◌++◌, length, map, take, get_or, set, slice_get, Some, None, refl, sym, ◌∙◌, ap, subst, arith, rules}
use Rattle.std.specs.List.{AllByRecursion, AllPairs}
use Rattle.std.specs.List.Sorted.{IsStrictlySortedBy}
use Rattle.std.specs.Ordering.{nat_cmp}
use Rattle.std.proofs.lemmas.List.{append-nil, get_or-map, take_more}
use Rattle.std.proofs.lemmas.Map.Keys.{below_from_sorted, sorted_from_strictly_increasing, sorted_tail}
use Rattle.hg_pages.specs.Marks.{AreMarks, ArePagesRising, AreSlotsDistinct, IsInOrder, is_named}
use Rattle.hg_pages.specs.Tables.{AreEntries, slot_in}
use Rattle.hg_pages.proofs.Parting.{not_true, set_one}
use Rattle.hg_pages.proofs.Rising.{named_by, below_apart, each_at, each_of, equal, if_false, if_true, none_above}

map_length : {X : Type 0} (f : (ℕ × ℕ) → X) (es : List (ℕ × ℕ)) → length (map f es) ≡ length es
map_length f [] = refl
map_length f (e ∷ es) = ap suc (map_length f es)

rising_from_sorted : (es : List (ℕ × ℕ)) → IsStrictlySortedBy nat_cmp (map (λ e. e.0) es) → ArePagesRising es
rising_from_sorted [] sorted = tt
rising_from_sorted (e ∷ es) sorted = (
  each_of (λ f. e.0 < f.0) es (λ k d lt.
      let inside : suc k < length (map (λ (x : ℕ × ℕ). x.0) (e ∷ es)) = omega (arith, lt, map_length (λ (x : ℕ × ℕ). x.0) es) in
      let below : e.0 < get_or (map (λ (x : ℕ × ℕ). x.0) es) k 0 = below_from_sorted (map (λ (x : ℕ × ℕ). x.0) (e ∷ es)) 0 (suc k) 0 sorted (omega arith) inside in
      omega (arith, below, get_or-map (λ (x : ℕ × ℕ). x.0) es k d 0 lt)),
  rising_from_sorted es (sorted_tail nat_cmp e.0 (map (λ (x : ℕ × ℕ). x.0) es) sorted),
)

rises : (xs : List (ℕ × ℕ)) (i j : ℕ) (d : ℕ × ℕ) → ArePagesRising xs → i < j → j < length xs → (get_or xs i d).0 < (get_or xs j d).0
rises [] i j d rising lt inside = absurd (omega (arith, inside))
rises (x ∷ xs) i zero d rising lt inside = absurd (omega (arith, lt))
rises (x ∷ xs) zero (suc j) d rising lt inside = each_at (λ e. x.0 < e.0) xs j d (omega (arith, inside)) rising.0
rises (x ∷ xs) (suc i) (suc j) d rising lt inside = rises xs i j d rising.1 (omega (arith, lt)) (omega (arith, inside))

named_at : (xs : List (ℕ × ℕ)) (k : ℕ) (d : ℕ × ℕ) → k < length xs → is_named xs (get_or xs k d).1 ≡ true
named_at [] k d lt = absurd (omega (arith, lt))
named_at (x ∷ xs) zero d lt = let here : (x.1 == x.1) ≡ true = grind rules in ap (λ (b : Bool). b || is_named xs x.1) here
named_at (x ∷ xs) (suc k) d lt = ap (λ (b : Bool). x.1 == (get_or xs k d).1 || b) (named_at xs k d (omega (arith, lt))) ∙ last (x.1 == (get_or xs k d).1)
  where
    last : (b : Bool) → (b || true) ≡ true
    last true = refl
    last false = refl

apart : (xs : List (ℕ × ℕ)) (i j : ℕ) (d : ℕ × ℕ) → AreSlotsDistinct xs → i < j → j < length xs → (get_or xs i d).1 ≢ (get_or xs j d).1
apart [] i j d distinct lt inside same = absurd (omega (arith, inside))
apart (x ∷ xs) i zero d distinct lt inside same = absurd (omega (arith, lt))
apart (x ∷ xs) zero (suc j) d distinct lt inside same = absurd (cc (sym distinct.0 ∙ ap (λ (s : ℕ). is_named xs s) same ∙ named_at xs j d (omega (arith, inside))))
apart (x ∷ xs) (suc i) (suc j) d distinct lt inside same = apart xs i j d distinct.1 (omega (arith, lt)) (omega (arith, inside)) same

named_place : (xs : List (ℕ × ℕ)) (slot : ℕ) → is_named xs slot ≡ true → (k : ℕ) × (k < length xs) × ((get_or xs k (0, 0)).1 ≡ slot)
named_place [] slot named = absurd (cc named)
named_place (x ∷ xs) slot named = first (x.1 == slot) refl named (named_place xs slot)
  where
    first : (here : Bool) → (x.1 == slot) ≡ here → (here || is_named xs slot) ≡ true → (is_named xs slot ≡ true → (k : ℕ) × (k < length xs) × ((get_or xs k (0, 0)).1 ≡ slot))
        → (k : ℕ) × (k < length (x ∷ xs)) × ((get_or (x ∷ xs) k (0, 0)).1 ≡ slot)
    first true test is rest = (0, omega arith, equal x.1 slot test)
    first false test is rest = let found = rest is in (suc found.0, omega (arith, found.1), found.2)

distinct_from_pairs : (xs : List (ℕ × ℕ)) → AllPairs ◌≢◌ (map (λ e. e.1) xs) → AreSlotsDistinct xs
distinct_from_pairs [] pairs = tt
distinct_from_pairs (x ∷ xs) pairs = (
  not_true (is_named xs x.1) (λ named.
      let found = named_place xs x.1 named in
      let there : get_or (map (λ (e : ℕ × ℕ). e.1) xs) found.0 0 ≡ x.1 = get_or-map (λ (e : ℕ × ℕ). e.1) xs found.0 (0, 0) 0 found.1 ∙ found.2 in
      pairs 0 (suc found.0) 0 (omega arith) (omega (arith, found.1, map_length (λ (e : ℕ × ℕ). e.1) xs)) (sym there)),
  distinct_from_pairs xs (λ i j d lt inside. pairs (suc i) (suc j) d (omega (arith, lt)) (omega (arith, inside))),
)

pub in_order : (es : List (ℕ × ℕ)) → AreEntries es → IsInOrder es
in_order es are = record { rising = rising_from_sorted es (sorted_from_strictly_increasing (map (λ (e : ℕ × ℕ). e.0) es) are.rising); distinct = distinct_from_pairs es are.distinct }

pub are_entries : (es : List (ℕ × ℕ)) → IsInOrder es → AreEntries es
are_entries es order = record {
  rising = λ k inside.
      let next : k + 1 < length es = omega (arith, inside, map_length (λ (e : ℕ × ℕ). e.0) es) in
      let below = rises es k (k + 1) (0, 0) order.rising (omega arith) next in
      omega (arith, below, get_or-map (λ (e : ℕ × ℕ). e.0) es k (0, 0) 0 (omega (arith, next)), get_or-map (λ (e : ℕ × ℕ). e.0) es (k + 1) (0, 0) 0 next);
  distinct = λ i j d lt inside same.
      let within : j < length es = omega (arith, inside, map_length (λ (e : ℕ × ℕ). e.1) es) in
      apart es i j (0, 0) order.distinct lt within
      (sym (get_or-map (λ (e : ℕ × ℕ). e.1) es i (0, 0) d (omega (arith, lt, within))) ∙ same ∙ get_or-map (λ (e : ℕ × ℕ). e.1) es j (0, 0) d within);
}

-- a look-up, and a place of the list
each_got : (P : (ℕ × ℕ) → Type 0) (es : List (ℕ × ℕ)) (i : ℕ) (x : ℕ × ℕ) → AllByRecursion P es → slice_get es i ≡ Some x → P x
each_got P [] i x each is = absurd (cc is)
each_got P (e ∷ es) zero x each is = let same : e ≡ x = cc is in subst P same each.0
each_got P (e ∷ es) (suc i) x each is = each_got P es i x each.1 is

pub found_at : (es : List (ℕ × ℕ)) (i page slot : ℕ) → ArePagesRising es → slice_get es i ≡ Some (page, slot) → slot_in es page ≡ Some slot
found_at [] i page slot rising is = absurd (cc is)
found_at (e ∷ es) zero page slot rising is =
    let same : e ≡ (page, slot) = cc is in
    let here : (e.0 == page) ≡ true = ap (λ (x : ℕ × ℕ). x.0 == page) same ∙ grind rules in
    if_true (e.0 == page) (Some e.1) (slot_in es page) here ∙ ap (λ (x : ℕ × ℕ). Some x.1) same
found_at (e ∷ es) (suc i) page slot rising is =
    if_false (e.0 == page) (Some e.1) (slot_in es page) (below_apart e.0 page (each_got (λ f. e.0 < f.0) es i (page, slot) rising.0 is)) ∙ found_at es i page slot rising.1 is

pub placed_at : (es : List (ℕ × ℕ)) (page slot : ℕ) → slot_in es page ≡ Some slot → (i : ℕ) × (slice_get es i ≡ Some (page, slot))
placed_at [] page slot is = absurd (cc is)
placed_at (e ∷ es) page slot is = first (e.0 == page) refl is (placed_at es page slot)
  where
    first : (here : Bool) → (e.0 == page) ≡ here → (if here then Some e.1 else slot_in es page) ≡ Some slot → (slot_in es page ≡ Some slot → (i : ℕ) × (slice_get es i ≡ Some (page, slot)))
        → (i : ℕ) × (slice_get (e ∷ es) i ≡ Some (page, slot))
    first true test found rest = let same : e.1 ≡ slot = cc found in (0, λ j. Some (equal e.0 page test j, same j))
    first false test found rest = let later = rest found in (suc later.0, later.1)

-- entries with the same look-ups are the same
no_page : (e : ℕ × ℕ) (es : List (ℕ × ℕ)) → slot_in (e ∷ es) e.0 ≡ None → ⊥
no_page e es is = let here : (e.0 == e.0) ≡ true = grind rules in absurd (cc (sym (if_true (e.0 == e.0) (Some e.1) (slot_in es e.0) here) ∙ is))

higher_first : (x y : ℕ × ℕ) (xs ys : List (ℕ × ℕ)) → ArePagesRising (y ∷ ys) → slot_in (x ∷ xs) x.0 ≡ slot_in (y ∷ ys) x.0 → x.0 < y.0 → ⊥
higher_first x y xs ys rising same lt =
    no_page x xs (same ∙ none_above x.0 (y ∷ ys) (lt, above ys rising.0))
  where
    above : (zs : List (ℕ × ℕ)) → AllByRecursion (λ z. y.0 < z.0) zs → AllByRecursion (λ z. x.0 < z.0) zs
    above [] each = tt
    above (z ∷ zs) each = (omega (arith, lt, each.0), above zs each.1)

tails : (page : ℕ) (x y : ℕ × ℕ) (xs ys : List (ℕ × ℕ)) → x.0 ≡ y.0 → ArePagesRising (x ∷ xs) → ArePagesRising (y ∷ ys) → slot_in (x ∷ xs) page ≡ slot_in (y ∷ ys) page → (here : Bool) → (x.0 == page) ≡ here → slot_in xs page ≡ slot_in ys page
tails page x y xs ys first a b same true test =
    let is : x.0 ≡ page = equal x.0 page test in
    ap (λ (n : ℕ). slot_in xs n) (sym is) ∙ none_above x.0 xs a.0 ∙ sym (none_above y.0 ys b.0) ∙ ap (λ (n : ℕ). slot_in ys n) (sym first ∙ is)
tails page x y xs ys first a b same false test =
    sym (if_false (x.0 == page) (Some x.1) (slot_in xs page) test) ∙ same ∙ if_false (y.0 == page) (Some y.1) (slot_in ys page) (ap (λ (n : ℕ). n == page) (sym first) ∙ test)

order : (a b : ℕ) → (a < b) ⊎ ((a ≡ b) ⊎ (b < a))
order a b = grind arith

pub same_entries : (xs ys : List (ℕ × ℕ)) → ArePagesRising xs → ArePagesRising ys → ((page : ℕ) → slot_in xs page ≡ slot_in ys page) → xs ≡ ys
same_entries [] [] a b same = refl
same_entries [] (y ∷ ys) a b same = absurd (no_page y ys (sym (same y.0)))
same_entries (x ∷ xs) [] a b same = absurd (no_page x xs (same x.0))
same_entries (x ∷ xs) (y ∷ ys) a b same = heads (order x.0 y.0) (same_entries xs ys a.1 b.1)
  where
    heads : (x.0 < y.0) ⊎ ((x.0 ≡ y.0) ⊎ (y.0 < x.0)) → (((page : ℕ) → slot_in xs page ≡ slot_in ys page) → xs ≡ ys) → (x ∷ xs) ≡ (y ∷ ys)
    heads (inl lt) rest = absurd (higher_first x y xs ys b (same x.0) lt)
    heads (inr (inr lt)) rest = absurd (higher_first y x ys xs a (sym (same y.0)) lt)
    heads (inr (inl first)) rest =
        let here : (x.0 == x.0) ≡ true = grind rules in
        let there : (y.0 == x.0) ≡ true = ap (λ (n : ℕ). n == x.0) (sym first) ∙ here in
        let found : Some x.1 ≡ Some y.1 = sym (if_true (x.0 == x.0) (Some x.1) (slot_in xs x.0) here) ∙ same x.0 ∙ if_true (y.0 == x.0) (Some y.1) (slot_in ys x.0) there in
        let second : x.1 ≡ y.1 = cc found in
        let all = rest (λ page. tails page x y xs ys first a b (same page) (x.0 == page) refl) in
        λ i. (first i, second i) ∷ all i

-- the marks of one entry more
pub marks_more : (es : List (ℕ × ℕ)) (i : ℕ) (d : ℕ × ℕ) (marks : List Bool) → i < length es → (get_or es i d).1 < length marks → AreMarks marks (take i es) → AreMarks (set marks (get_or es i d).1 true) (take (i + 1) es)
marks_more es i d marks lt within are =
    let e = get_or es i d in
    let before : AreMarks marks (take i es ++ []) = subst (λ (l : List (ℕ × ℕ)). AreMarks marks l) (sym (append-nil (take i es))) are in
    subst (λ (l : List (ℕ × ℕ)). AreMarks (set marks e.1 true) l) (sym (take_more es i d lt)) (λ other. set_one e.0 e.1 other (e.1 == other) (take i es) [] marks refl within before)

-- no slot has two pages
pub once : (es : List (ℕ × ℕ)) (page other slot : ℕ) → AreSlotsDistinct es → slot_in es page ≡ Some slot → slot_in es other ≡ Some slot → page ≡ other
once [] page other slot distinct one two = absurd (cc one)
once (e ∷ es) page other slot distinct one two = first (e.0 == page) (e.0 == other) refl refl one two (once es page other slot distinct.1)
  where
    again : (p : ℕ) → Some e.1 ≡ Some slot → slot_in es p ≡ Some slot → ⊥
    again p here there = let same : e.1 ≡ slot = cc here in absurd (cc (sym distinct.0 ∙ ap (λ (s : ℕ). is_named es s) same ∙ named_by es p slot there))

    first : (here also : Bool) → (e.0 == page) ≡ here → (e.0 == other) ≡ also → (if here then Some e.1 else slot_in es page) ≡ Some slot → (if also then Some e.1 else slot_in es other) ≡ Some slot
        → (slot_in es page ≡ Some slot → slot_in es other ≡ Some slot → page ≡ other) → page ≡ other
    first true true test tests is are rest = sym (equal e.0 page test) ∙ equal e.0 other tests
    first true false test tests is are rest = absurd (again other is are)
    first false true test tests is are rest = absurd (again page are is)
    first false false test tests is are rest = rest is are
