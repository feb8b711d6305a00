-- Locks by rising number: where a lock stands or belongs, and what stays rising.
use Rattle.std.proofs.Common.{◌≡◌, ℕ, zero, suc, ◌+◌, ◌<◌, ◌≤◌, Bool, true, false, cond, not, nat_eq, nat_lt, nat_le, List, [], ◌∷◌, length, map, filter, get_or, refl, sym, ap, ◌∙◌, arith, add-one, one-add, subst}
use Rattle.std.proofs.lemmas.Bool.{ltb-true, ltb-false, leb-true, leb-false, lt-ltb, le-ltb, ne_eqb, eqb-true, eqb-false, eq-eqb, or_parts}
use Rattle.std.specs.List.{position_or_len, insert, remove}
use Rattle.std.specs.List.Sorted.{IsStrictlyIncreasing}
use Rattle.hg_model.specs.declared.held.HeldLock.{HeldLock}
use Rattle.hg_model.specs.Locks.{with_hold, has_lock, counted, IsByRisingLock}

-- rising numbers from n on
abbrev pub From : ℕ → List ℕ → Type 0
From n [] = Unit {0}
From n (x ∷ xs) = (n ≤ x) × From (suc x) xs

pub from_less : (n m : ℕ) (xs : List ℕ) → n ≤ m → From m xs → From n xs
from_less n m [] le f = tt
from_less n m (x ∷ xs) le f = (let l = f.0 in omega arith, f.1)

-- the next step of an increasing list
rest_increases : (x : ℕ) (xs : List ℕ) → IsStrictlyIncreasing (x ∷ xs) → IsStrictlyIncreasing xs
rest_increases x xs h = λ k lt. subst (λ (m : ℕ). get_or xs k 0 < get_or (x ∷ xs) m 0) (add-one (suc k) ∙ ap suc (sym (add-one k))) (h (suc k) (omega arith))

pub from_increasing : (n : ℕ) (xs : List ℕ) → (0 < length xs → n ≤ get_or xs 0 0) → IsStrictlyIncreasing xs → From n xs
from_increasing n [] h inc = tt
from_increasing n (x ∷ xs) h inc = (h (omega arith), from_increasing (suc x) xs (λ some. inc 0 (omega arith)) (rest_increases x xs inc))

pub increasing_from : (n : ℕ) (xs : List ℕ) → From n xs → (k : ℕ) → k + 1 < length xs → get_or xs k 0 < get_or xs (k + 1) 0
increasing_from n [] f k lt = absurd (omega arith)
increasing_from n (x ∷ []) f k lt = absurd (omega arith)
increasing_from n (x ∷ y ∷ ys) f zero lt = let l = f.1.0 in omega arith
increasing_from n (x ∷ y ∷ ys) f (suc k) lt =
    subst (λ (m : ℕ). get_or (y ∷ ys) k 0 < get_or (x ∷ y ∷ ys) m 0) (ap suc (add-one k) ∙ sym (add-one (suc k))) (increasing_from (suc x) (y ∷ ys) f.1 k (omega arith))

-- a filter of locks by rising number
pub from_filter : (p : HeldLock → Bool) (n : ℕ) (hs : List HeldLock) → From n (map (λ h. h.lock) hs) → From n (map (λ h. h.lock) (filter p hs))
from_filter p n [] f = tt
from_filter p n (h ∷ hs) f =
    elim (p h) as (λ b. From n (map (λ x. x.lock) (cond b (h ∷ filter p hs) (filter p hs)))) [
      | true ↦ (f.0, from_filter p (suc h.lock) hs f.1)
      | false ↦ from_less n (suc h.lock) _ (let l = f.0 in omega arith) (from_filter p (suc h.lock) hs f.1)
    ]

pub rising_filter : (p : HeldLock → Bool) (hs : List HeldLock) → IsByRisingLock hs → IsByRisingLock (filter p hs)
rising_filter p hs h = increasing_from 0 _ (from_filter p 0 hs (from_increasing 0 _ (λ _. omega arith) h))

pub counted_rises : (write : Bool) (hs : List HeldLock) → IsByRisingLock hs → IsStrictlyIncreasing (counted write hs)
counted_rises true hs h = rising_filter (λ x. x.write) hs h
counted_rises false hs h = h

from_with : (n : ℕ) (h : HeldLock) (hs : List HeldLock) → n ≤ h.lock → From n (map (λ x. x.lock) hs) → From n (map (λ x. x.lock) (with_hold h hs))
from_with n h [] le f = (le, tt)
from_with n h (x ∷ hs) le f =
    elim (nat_lt h.lock x.lock) as (λ b. nat_lt h.lock x.lock ≡ b → From n (map (λ y. y.lock) (cond b (h ∷ x ∷ hs) (cond (nat_eq h.lock x.lock) (h ∷ hs) (x ∷ with_hold h hs))))) [
      | true ↦ λ less. (le, (let l = ltb-true h.lock x.lock less in omega arith, f.1))
      | false ↦ λ more. elim (nat_eq h.lock x.lock) as (λ b. nat_eq h.lock x.lock ≡ b → From n (map (λ y. y.lock) (cond b (h ∷ hs) (x ∷ with_hold h hs)))) [
        | true ↦ λ same. (le, from_less (suc h.lock) (suc x.lock) _ (let e = eqb-true h.lock x.lock same in omega arith) f.1)
        | false ↦ λ other. (f.0, from_with (suc x.lock) h hs (let l = ltb-false h.lock x.lock more in let e = eqb-false h.lock x.lock other in omega arith) f.1)
      ] refl
    ] refl

pub rising_with : (h : HeldLock) (hs : List HeldLock) → IsByRisingLock hs → IsByRisingLock (with_hold h hs)
rising_with h hs f = increasing_from 0 _ (from_with 0 h hs (omega arith) (from_increasing 0 _ (λ _. omega arith) f))

-- items by the number that stands for each
module _ {X : Type 0} (key : X → ℕ) where
  abbrev pub place_by : ℕ → List X → ℕ
  place_by l xs = position_or_len (λ x. nat_le l (key x)) xs

  abbrev pub without_by : ℕ → List X → List X
  without_by l xs = filter (λ x. not (nat_eq (key x) l)) xs

  -- items of greater number stay
  all_above : (l : ℕ) (xs : List X) → From (suc l) (map key xs) → without_by l xs ≡ xs
  all_above l [] f = refl
  all_above l (x ∷ xs) f =
      rw (ne_eqb (key x) l (λ e. let le = f.0 in omega arith)) (ap (λ r. x ∷ r) (all_above l xs (from_less (suc l) (suc (key x)) _ (let le = f.0 in omega arith) f.1)))

  step_out : (x : X) (xs : List X) (n : ℕ) → remove (x ∷ xs) (1 + n) ≡ x ∷ remove xs n
  step_out x xs n = ap (λ (m : ℕ). remove (x ∷ xs) m) (one-add n)

  -- the item stands at its place
  pub removed : (l n : ℕ) (xs : List X) (d : X) → From n (map key xs) → place_by l xs < length xs → key (get_or xs (place_by l xs) d) ≡ l → remove xs (place_by l xs) ≡ without_by l xs
  removed l n [] d f = λ lt is. absurd (omega arith)
  removed l n (x ∷ xs) d f =
      elim (nat_le l (key x)) as (λ b. nat_le l (key x) ≡ b → cond (not b) (1 + place_by l xs) 0 < suc (length xs) → key (get_or (x ∷ xs) (cond (not b) (1 + place_by l xs) 0) d) ≡ l → remove (x ∷ xs) (cond (not b) (1 + place_by l xs) 0) ≡ without_by l (x ∷ xs)) [
        | true ↦ λ le lt is. rw (eq-eqb (key x) l is) (sym (all_above l xs (from_less (suc l) (suc (key x)) _ (omega arith) f.1)))
        | false ↦ λ gt lt is.
            let more = leb-false l (key x) gt in
            let e : 1 + place_by l xs ≡ suc (place_by l xs) = omega arith in
            rw (ne_eqb (key x) l (λ s. omega arith)) (step_out x xs (place_by l xs) ∙ ap (λ r. x ∷ r) (removed l (suc (key x)) xs d f.1 (omega arith) (ap (λ (m : ℕ). key (get_or (x ∷ xs) m d)) (sym e) ∙ is)))
      ] refl

  -- the number is not among them
  pub kept : (l n : ℕ) (xs : List X) (d : X) → From n (map key xs) → (place_by l xs < length xs → key (get_or xs (place_by l xs) d) ≡ l → ⊥) → without_by l xs ≡ xs
  kept l n [] d f = λ no. refl
  kept l n (x ∷ xs) d f =
      elim (nat_le l (key x)) as (λ b. nat_le l (key x) ≡ b → (cond (not b) (1 + place_by l xs) 0 < suc (length xs) → key (get_or (x ∷ xs) (cond (not b) (1 + place_by l xs) 0) d) ≡ l → ⊥) → without_by l (x ∷ xs) ≡ x ∷ xs) [
        | true ↦ λ le no. rw (ne_eqb (key x) l (no (omega arith))) (ap (λ r. x ∷ r) (all_above l xs (from_less (suc l) (suc (key x)) _ (let m = leb-true l (key x) le in let ne = no (omega arith) in omega arith) f.1)))
        | false ↦ λ gt no.
            let more = leb-false l (key x) gt in
            let e : 1 + place_by l xs ≡ suc (place_by l xs) = omega arith in
            rw (ne_eqb (key x) l (λ s. omega arith)) (ap (λ r. x ∷ r) (kept l (suc (key x)) xs d f.1 (λ lt is. no (omega arith) (ap (λ (m : ℕ). key (get_or (x ∷ xs) m d)) e ∙ is))))
      ] refl

abbrev pub place : ℕ → List HeldLock → ℕ
place l hs = place_by (λ (h : HeldLock). h.lock) l hs

-- where a number stands among numbers, or belongs
abbrev pub place_among : ℕ → List ℕ → ℕ
place_among l ns = place_by (λ (n : ℕ). n) l ns

step_in : (h x : HeldLock) (hs : List HeldLock) (n : ℕ) → insert (x ∷ hs) (1 + n) h ≡ x ∷ insert hs n h
step_in h x hs n = ap (λ (m : ℕ). insert (x ∷ hs) m h) (one-add n)

-- a lock that is absent goes to its place
pub inserted : (h : HeldLock) (hs : List HeldLock) → has_lock hs h.lock ≡ false → insert hs (place h.lock hs) h ≡ with_hold h hs
inserted h [] absent = refl
inserted h (x ∷ hs) absent =
    let parts = or_parts (nat_eq x.lock h.lock) (has_lock hs h.lock) absent in
    let differs : x.lock ≡ h.lock → ⊥ = eqb-false x.lock h.lock parts.0 in
    elim (nat_le h.lock x.lock) as (λ b. nat_le h.lock x.lock ≡ b → insert (x ∷ hs) (cond (not b) (1 + place h.lock hs) 0) h ≡ with_hold h (x ∷ hs)) [
      | true ↦ λ le. rw (lt-ltb h.lock x.lock (let l = leb-true h.lock x.lock le in omega arith)) refl
      | false ↦ λ gt. rw (le-ltb h.lock x.lock (let l = leb-false h.lock x.lock gt in omega arith), ne_eqb h.lock x.lock (λ e. differs (sym e))) (step_in h x hs (place h.lock hs) ∙ ap (λ r. x ∷ r) (inserted h hs parts.1))
    ] refl
