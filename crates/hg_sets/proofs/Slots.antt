-- Searches among slots.
use Rattle.std.proofs.Common.{◌≡◌, ◌≢◌, ◌⊎◌, inl, inr, ℕ, zero, suc, ◌+◌, ◌-◌, ◌<◌, ◌≤◌, List, [], ◌∷◌, cond, nat_lt}
use Rattle.std.proofs.Common.{length, set, slice_index, refl, sym, ap, ◌∙◌, subst, arith, length-set}
use Rattle.std.proofs.lemmas.Bool.{cases_eq, lt-ltb, le-ltb}
use Rattle.std.proofs.lemmas.List.{get_or-set_same, get_or-set_other}
use Rattle.std.proofs.lemmas.List.Sums.{sum_by-cons}
use Rattle.hg_sets.specs.Listing.{HoldNumbers, IsFoundBy, IsMet, first_slot, next_slot, taken}

-- From a slot on, a search passes so many slots, none of them free, and comes to another one.
abbrev pub IsPassed : List ℕ → ℕ → ℕ → ℕ → Type 0
IsPassed slots from zero at = from ≡ at
IsPassed slots from (suc steps) at = (slice_index slots from ≢ 0) × IsPassed slots (next_slot (length slots) from) steps at

pass_one : (slots : List ℕ) (from steps at : ℕ) → IsPassed slots from steps at → slice_index slots at ≢ 0 → IsPassed slots from (suc steps) (next_slot (length slots) at)
pass_one slots from zero at e full = (subst (λ x. slice_index slots x ≢ 0) (sym e) full, ap (next_slot (length slots)) e)
pass_one slots from (suc steps) at p full = (p.0, pass_one slots (next_slot (length slots) from) steps at p.1 full)

-- one slot more is passed
pub pass_more : (slots : List ℕ) (from steps at : ℕ) → IsPassed slots from steps at → slice_index slots at ≢ 0 → IsPassed slots from (steps + 1) (next_slot (length slots) at)
pass_more slots from steps at p full =
    let one : suc steps ≡ steps + 1 = omega arith in
    subst (λ n. IsPassed slots from n (next_slot (length slots) at)) one (pass_one slots from steps at p full)

-- what is put into the free slot that a search comes to is met
pub met_put : (slots : List ℕ) (entry from steps at n : ℕ) → IsPassed slots from steps at → slice_index slots at ≡ 0 → at < length slots → steps < n → IsMet (set slots at entry) entry from n
met_put slots entry from steps at zero p free within lt = absurd (omega arith)
met_put slots entry from zero at (suc n) p free within lt =
    inl (subst (λ x. slice_index (set slots at entry) x ≡ entry) (sym p) (get_or-set_same slots at entry 0 within))
met_put slots entry from (suc steps) at (suc n) p free within lt =
    let other : from ≢ at = λ e. p.0 (ap (slice_index slots) e ∙ free) in
    inr (
      (λ z. p.0 (sym (get_or-set_other slots at from entry 0 other) ∙ z)),
      subst (λ len. IsMet (set slots at entry) entry (next_slot len from) n) (sym (length-set slots at entry))
          (met_put slots entry (next_slot (length slots) from) steps at n p.1 free within (omega arith)),
    )

-- what was met is met after a free slot was filled
pub met_kept : (slots : List ℕ) (e x q at n : ℕ) → 0 < e → slice_index slots q ≡ 0 → IsMet slots e at n → IsMet (set slots q x) e at n
met_kept slots e x q at zero some free h = h
met_kept slots e x q at (suc n) some free (inl h) =
    let other : at ≢ q = λ same. let none : e ≡ 0 = sym h ∙ ap (slice_index slots) same ∙ free in omega arith in
    inl (get_or-set_other slots q at x 0 other ∙ h)
met_kept slots e x q at (suc n) some free (inr h) =
    let other : at ≢ q = λ same. h.0 (ap (slice_index slots) same ∙ free) in
    inr (
      (λ z. h.0 (sym (get_or-set_other slots q at x 0 other) ∙ z)),
      subst (λ len. IsMet (set slots q x) e (next_slot len at) n) (sym (length-set slots q x)) (met_kept slots e x q (next_slot (length slots) at) n some free h.1),
    )

-- a whole search for a hash, once an entry is put
pub found_put : (slots : List ℕ) (hash entry steps at : ℕ) → IsPassed slots (first_slot (length slots) hash) steps at → slice_index slots at ≡ 0 → at < length slots → steps < length slots → IsFoundBy (set slots at entry) hash entry
found_put slots hash entry steps at p free within lt =
    subst (λ len. IsMet (set slots at entry) entry (first_slot len hash) len) (sym (length-set slots at entry)) (met_put slots entry (first_slot (length slots) hash) steps at (length slots) p free within lt)

pub found_kept : (slots : List ℕ) (q x h e : ℕ) → slice_index slots q ≡ 0 → 0 < e → IsFoundBy slots h e → IsFoundBy (set slots q x) h e
found_kept slots q x h e free some found =
    subst (λ len. IsMet (set slots q x) e (first_slot len h) len) (sym (length-set slots q x)) (met_kept slots e x q (first_slot (length slots) h) (length slots) some free found)

-- nothing is met from a free slot on
pub free_ends : (slots : List ℕ) (e at n : ℕ) → 0 < n → 0 < e → slice_index slots at ≡ 0 → IsMet slots e at n → ⊥
free_ends slots e at zero lt some free h = h
free_ends slots e at (suc n) lt some free (inl h) = let none : e ≡ 0 = sym h ∙ free in omega arith
free_ends slots e at (suc n) lt some free (inr h) = h.0 free

-- what is met, and not here, is met from the next slot on
pub met_next : (slots : List ℕ) (e at n : ℕ) → 0 < n → slice_index slots at ≢ e → IsMet slots e at n → IsMet slots e (next_slot (length slots) at) (n - 1)
met_next slots e at zero lt other h = absurd (omega arith)
met_next slots e at (suc n) lt other (inl h) = absurd (other h)
met_next slots e at (suc n) lt other (inr h) =
    let left : n ≡ suc n - 1 = omega arith in
    subst (λ k. IsMet slots e (next_slot (length slots) at) k) left h.1

-- the slot that comes next is the one behind, or the first one
next_cases : (count at : ℕ) → at < count → ((at + 1 < count) × (next_slot count at ≡ at + 1)) ⊎ ((at + 1 ≡ count) × (next_slot count at ≡ 0))
next_cases count at lt =
    elim (cases_eq (at + 1) count) [
      | inl last ↦ inr (last, rw (le-ltb (at + 1) count (omega arith)) refl)
      | inr other ↦ inl (omega arith, rw (lt-ltb (at + 1) count (omega arith)) refl)
    ]

before : (i from : ℕ) → (i < from) ⊎ (from ≤ i)
before zero zero = inr (omega arith)
before zero (suc from) = inl (omega arith)
before (suc i) zero = inr (omega arith)
before (suc i) (suc from) =
    elim (before i from) [
      | inl lower ↦ inl (omega arith)
      | inr upper ↦ inr (omega arith)
    ]

-- no slot that was passed is free, be it behind the one where the search began or before it
none_free : (slots : List ℕ) (from n at i : ℕ) → IsPassed slots from n at → from < length slots → i < length slots
    → (from ≤ i → i < from + n → slice_index slots i ≢ 0) × (i < from → i + length slots < from + n → slice_index slots i ≢ 0)
none_free slots from zero at i p lt within = ((λ a b. absurd (omega arith)), (λ a b. absurd (omega arith)))
none_free slots from (suc n) at i p lt within =
    elim (cases_eq i from) [
      | inl same ↦
          let here : slice_index slots i ≢ 0 = λ free. p.0 (ap (slice_index slots) (sym same) ∙ free) in
          ((λ a b. here), (λ a b. here))
      | inr other ↦
          elim (next_cases (length slots) from lt) [
            | inl one ↦
                let later = none_free slots (from + 1) n at i (subst (λ k. IsPassed slots k n at) one.1 p.1) one.0 within in
                ((λ a b. later.0 (omega arith) (omega arith)), (λ a b. later.1 (omega arith) (omega arith)))
            | inr one ↦
                let later = none_free slots 0 n at i (subst (λ k. IsPassed slots k n at) one.1 p.1) (omega arith) within in
                ((λ a b. absurd (omega arith)), (λ a b. later.0 (omega arith) (omega arith)))
          ]
    ]

taken_all : (slots : List ℕ) → ((i : ℕ) → i < length slots → slice_index slots i ≢ 0) → taken slots ≡ length slots
taken_all [] h = refl
taken_all (x ∷ xs) h =
    let full : x ≢ 0 = h 0 (omega arith) in
    let rest : taken xs ≡ length xs = taken_all xs (λ i lt. h (suc i) (omega arith)) in
    sum_by-cons (λ y. cond (nat_lt 0 y) 1 0) x xs ∙ rw (lt-ltb 0 x (omega arith)) (omega arith)

-- each slot is taken where a search passed as many as there are
pub all_taken : (slots : List ℕ) (from at n : ℕ) → IsPassed slots from n at → from < length slots → n ≡ length slots → taken slots ≡ length slots
all_taken slots from at n p lt all =
    taken_all slots (λ i within.
    let there = none_free slots from n at i p lt within in
    λ free. elim (before i from) [
      | inl lower ↦ there.1 lower (omega arith) free
      | inr upper ↦ there.0 upper (omega arith) free
    ])

-- no slot is taken where each is free
pub none_taken : (slots : List ℕ) → HoldNumbers 0 slots → taken slots ≡ 0
none_taken [] h = refl
none_taken (x ∷ xs) h =
    let free : x ≤ 0 = h 0 0 (omega arith) in
    let rest : taken xs ≡ 0 = none_taken xs (λ k d lt. h (suc k) d (omega arith)) in
    sum_by-cons (λ y. cond (nat_lt 0 y) 1 0) x xs ∙ rw (le-ltb 0 x free) (omega arith)
