-- What loops find out of each item of a list, of a sum, and of slots that differ.
use Rattle.std.proofs.Common.{◌≡◌, ◌≢◌, ◌⊎◌, ◌↔◌, inl, inr, ℕ, suc, zero, ◌+◌, ◌<◌, ◌≤◌, Bool, true, false, List, [], ◌∷◌, ◌++◌, length, map, sum, take, get_or, set, All, AllPairs, Contains, Result, Ok, Err, refl, sym, ap, subst, ◌∙◌, arith, length-append, length-take, length-set, get_or-set_same, get_or-set_other}
use Rattle.std.specs.Prelude.{IfOk, IsTrue}
use Rattle.std.proofs.lemmas.Bool.{cases_eq, cases_lt, false≢true}
use Rattle.std.proofs.lemmas.Option.{get_or_from_slice_get, slice_get-get_or}
use Rattle.std.proofs.lemmas.List.{get_or-map, get_or-take, get_or_append_left, get_or_push, length-map, map_push, take_all, take_more}
use Rattle.std.proofs.lemmas.List.Sums.{sum_by-cons}
use Rattle.std.proofs.lemmas.List.Quantifiers.{all_pairs_push}
use Rattle.hg_root.specs.declared.parts.PageSlot.{PageSlot}
use Rattle.hg_root.specs.Lawful.{HaveSlots}

same_at : {X : Type 0} (xs : List X) (i : ℕ) (d e : X) → i < length xs → get_or xs i d ≡ get_or xs i e
same_at xs i d e lt = get_or_from_slice_get xs i (get_or xs i e) d (slice_get-get_or xs i e lt)

-- what was read, with another default
pub read_at : {X : Type 0} (xs : List X) (i : ℕ) (x d y : X) → i < length xs → x ≡ get_or xs i x → x ≡ y → get_or xs i d ≡ y
read_at xs i x d y lt is same = same_at xs i d x lt ∙ sym is ∙ same

module _ {X : Type 0} (P : X → Type 0) (xs : List X) where
  pub each_more : (i : ℕ) (d : X) → i < length xs → P (get_or xs i d) → All P (take i xs) → All P (take (i + 1) xs)
  each_more i d within holds before k e lt =
      let up : k < i + 1 = omega (arith, length-take (i + 1) xs, lt) in
      subst P (sym (get_or-take (i + 1) xs k e up)) (pick (cases_lt k i))
    where
      pick : (k < i) ⊎ (i ≤ k) → P (get_or xs k e)
      pick (inl less) = subst P (get_or-take i xs k e less) (before k e (omega (arith, length-take i xs)))
      pick (inr more) =
          let here : k ≡ i = omega (arith, length-take (i + 1) xs, lt) in
          subst (λ (n : ℕ). P (get_or xs n e)) (sym here) (subst P (same_at xs i d e within) holds)

  pub each_all : (i : ℕ) → length xs ≤ i → All P (take i xs) → All P xs
  each_all i all before = subst (All P) (take_all i xs all) before

sum_cons : (x : ℕ) (xs : List ℕ) → sum (x ∷ xs) ≡ x + sum xs
sum_cons x xs = sum_by-cons (λ n. n) x xs

pub front_sum : {X : Type 0} (f : X → ℕ) (xs : List X) (i : ℕ) (d : X) → i < length xs → sum (map f (take i xs)) + f (get_or xs i d) ≤ sum (map f xs)
front_sum f [] i d lt = absurd (omega arith)
front_sum f (x ∷ xs) zero d lt = omega (arith, sum_cons (f x) (map f xs), sum_cons (f x) [])
front_sum f (x ∷ xs) (suc i) d lt = let rest = front_sum f xs i d (omega arith) in omega (arith, sum_cons (f x) (map f xs), sum_cons (f x) (map f (take i xs)))

contains_old : (xs : List ℕ) (y s : ℕ) → Contains xs s → Contains (xs ++ y ∷ []) s
contains_old xs y s (k, lt, is) = (k, omega (arith, length-append xs (y ∷ [])), get_or_append_left xs (y ∷ []) s k lt ∙ is)

contains_new : (xs : List ℕ) (y : ℕ) → Contains (xs ++ y ∷ []) y
contains_new xs y = (length xs, omega (arith, length-append xs (y ∷ [])), get_or_push xs y y (length xs) refl)

contains_other : (xs : List ℕ) (y s : ℕ) → (y ≡ s → ⊥) → Contains (xs ++ y ∷ []) s → Contains xs s
contains_other xs y s other (k, lt, is) =
    elim (cases_lt k (length xs)) [
      | inl less ↦ (k, less, sym (get_or_append_left xs (y ∷ []) s k less) ∙ is)
      | inr more ↦
          let here : length xs ≡ k = omega (arith, length-append xs (y ∷ []), lt) in
          absurd (other (sym (get_or_push xs y s k here) ∙ is))
    ]

-- the slots so far, and the table that has a mark at each
pub record Marked (slots : List ℕ) (taken : List Bool) (most : ℕ) : Type 0 where
  pub len : length taken ≡ most
  pub distinct : AllPairs ◌≢◌ slots
  pub each : (slot : ℕ) → slot < most → (get_or taken slot false ≡ true) ↔ Contains slots slot

marked_push : (slots : List ℕ) (taken : List Bool) (most y : ℕ) → Marked slots taken most → y < most → get_or taken y false ≡ false → Marked (slots ++ y ∷ []) (set taken y true) most
marked_push slots taken most y m small none = record {
  len = length-set taken y true ∙ m.len;
  distinct = all_pairs_push ◌≢◌ slots y m.distinct (λ k d lt same.
      let there : Contains slots y = (k, lt, same_at slots k y d lt ∙ same) in
      false≢true (sym none ∙ (m.each y small).1 there));
  each = λ slot lt. elim (cases_eq y slot) [
    | inl same ↦ (
      λ _. subst (Contains (slots ++ y ∷ [])) same (contains_new slots y),
      λ _. ap (λ (n : ℕ). get_or (set taken y true) n false) (sym same) ∙ get_or-set_same taken y true false (omega (arith, m.len)),
    )
    | inr other ↦
        let apart : get_or (set taken y true) slot false ≡ get_or taken slot false = get_or-set_other taken y slot true false (λ e. other (sym e)) in (
          λ is. contains_old slots y slot ((m.each slot lt).0 (sym apart ∙ is)),
          λ has. apart ∙ (m.each slot lt).1 (contains_other slots y slot other has),
        )
  ];
}

abbrev pub slots_of : List PageSlot → List ℕ
slots_of pages = map (λ p. p.slot) pages

pub one_more : (pages : List PageSlot) (i : ℕ) (d : PageSlot) (taken : List Bool) (most : ℕ) → i < length pages → (get_or pages i d).slot < most → get_or taken (get_or pages i d).slot false ≡ false
    → Marked (slots_of (take i pages)) taken most → Marked (slots_of (take (i + 1) pages)) (set taken (get_or pages i d).slot true) most
one_more pages i d taken most lt small none m =
    let more : slots_of (take (i + 1) pages) ≡ slots_of (take i pages) ++ (get_or pages i d).slot ∷ [] = ap slots_of (take_more pages i d lt) ∙ map_push (λ p. p.slot) (take i pages) (get_or pages i d) in
    subst (λ (s : List ℕ). Marked s (set taken (get_or pages i d).slot true) most) (sym more) (marked_push (slots_of (take i pages)) taken most (get_or pages i d).slot m small none)

pub twice : (pages : List PageSlot) (i : ℕ) (d : PageSlot) (taken : List Bool) (most : ℕ) → i < length pages → (get_or pages i d).slot < most → get_or taken (get_or pages i d).slot false ≡ true
    → Marked (slots_of (take i pages)) taken most → AllPairs ◌≢◌ (slots_of pages) → ⊥
twice pages i d taken most lt small some m all =
    let y = (get_or pages i d).slot in
    let has : Contains (slots_of (take i pages)) y = (m.each y small).0 some in
    let len : length (slots_of (take i pages)) ≡ length (take i pages) = length-map (take i pages) (λ p. p.slot) in
    let before : has.0 < i = omega (arith, len, length-take i pages, has.1) in
    let within : has.0 < length pages = omega arith in
    let one : get_or (slots_of pages) has.0 y ≡ y =
    get_or-map (λ p. p.slot) pages has.0 d y within ∙ ap (λ (p : PageSlot). p.slot) (sym (get_or-take i pages has.0 d before))
    ∙ sym (get_or-map (λ p. p.slot) (take i pages) has.0 d y (omega (arith, length-take i pages))) ∙ has.2 in
    let other : get_or (slots_of pages) i y ≡ y = get_or-map (λ p. p.slot) pages i d y lt in
    all has.0 i y before (omega (arith, length-map pages (λ p. p.slot))) (one ∙ sym other)

pub own_all : (pages : List PageSlot) (i : ℕ) (taken : List Bool) (most : ℕ) → length pages ≤ i → Marked (slots_of (take i pages)) taken most → AllPairs ◌≢◌ (slots_of pages)
own_all pages i taken most all m = subst (λ (p : List PageSlot). AllPairs ◌≢◌ (slots_of p)) (take_all i pages all) m.distinct

pub with_slots : {E : Type 0} (pages : List PageSlot) (result : Result Bool E) → ((own : Bool) → (IsTrue own ↔ AllPairs ◌≢◌ (slots_of pages)) → IsTrue own ↔ HaveSlots pages) → IfOk result (λ own. IsTrue own ↔ AllPairs ◌≢◌ (slots_of pages)) → IfOk result (λ are. IsTrue are ↔ HaveSlots pages)
with_slots pages (Ok own) f is = f own is
with_slots pages (Err e) f is = is
