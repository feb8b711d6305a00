-- Threads that stand at their numbers in a table, and what a change of one place does to the list of them and to the counts of holders.
use Rattle.std.proofs.Common.{◌≡◌, ℕ, zero, suc, ◌+◌, ◌<◌, ◌≤◌, Bool, true, false, cond, ◌||◌, nat_lt, List, [], ◌∷◌, length, set, get_or, count_by, Option, Some, None, refl, sym, ap, ◌∙◌, arith}
use Rattle.std.proofs.lemmas.Bool.{ne_eqb, eq-eqb, lt-ltb, le-ltb}
use Rattle.std.proofs.lemmas.List.Sums.{sum_by-cons}
use Rattle.std.specs.List.{list_any}
use Rattle.hg_model.specs.declared.thread.ThreadState.{ThreadState}
use Rattle.hg_model.specs.Change.{change, with_thread, locks_of}
use Rattle.hg_model.specs.Verdicts.{has_thread}
use Rattle.hg_rules.specs.Tables.{started, IsNumbered, test_at, counted_at}

-- no thread below the first place's number
pub none_below : (test : ThreadState → Bool) (k t : ℕ) (slots : List (Option ThreadState)) → t < k → IsNumbered k slots → has_thread (started slots) t test ≡ false
none_below test k t [] lt h = refl
none_below test k t (None ∷ slots) lt h = none_below test (k + 1) t slots (omega arith) h
none_below test k t (Some x ∷ slots) lt h =
    rw (ne_eqb x.number t (λ e. let is = h.0 in omega arith)) (none_below test (k + 1) t slots (omega arith) h.1)

-- a thread is found at its number
pub found : (test : ThreadState → Bool) (k i : ℕ) (slots : List (Option ThreadState)) → IsNumbered k slots → has_thread (started slots) (k + i) test ≡ test_at test (get_or slots i None)
found test k i [] h = refl
found test k zero (None ∷ slots) h = none_below test (k + 1) (k + zero) slots (omega arith) h
found test k zero (Some x ∷ slots) h =
    rw (eq-eqb x.number (k + zero) (let is = h.0 in omega arith)) (end (test x) (none_below test (k + 1) (k + zero) slots (omega arith) h.1))
  where
    end : (b : Bool) {r : Bool} → r ≡ false → (b || r) ≡ b
    end true e = refl
    end false e = e
found test k (suc i) (None ∷ slots) h = ap (λ (n : ℕ). has_thread (started slots) n test) (shift k i) ∙ found test (k + 1) i slots h
  where
    shift : (k i : ℕ) → k + suc i ≡ k + 1 + i
    shift k i = omega arith
found test k (suc i) (Some x ∷ slots) h =
    rw (ne_eqb x.number (k + suc i) (λ e. let is = h.0 in omega arith)) (ap (λ (n : ℕ). has_thread (started slots) n test) (shift k i) ∙ found test (k + 1) i slots h.1)
  where
    shift : (k i : ℕ) → k + suc i ≡ k + 1 + i
    shift k i = omega arith

pub found_at : (test : ThreadState → Bool) (t : ℕ) (slots : List (Option ThreadState)) → IsNumbered 0 slots → has_thread (started slots) t test ≡ test_at test (get_or slots t None)
found_at test t slots h = ap (λ (n : ℕ). has_thread (started slots) n test) (from_zero t) ∙ found test 0 t slots h
  where
    from_zero : (t : ℕ) → t ≡ 0 + t
    from_zero t = omega arith

pub number_at : (k i : ℕ) (slots : List (Option ThreadState)) (x : ThreadState) → IsNumbered k slots → get_or slots i None ≡ Some x → x.number ≡ k + i
number_at k i [] x h e = absurd (cc)
number_at k zero (None ∷ slots) x h e = absurd (cc)
number_at k zero (Some z ∷ slots) x h e = let same : z ≡ x = cc in ap (λ (t : ThreadState). t.number) (sym same) ∙ h.0 ∙ omega arith
number_at k (suc i) (None ∷ slots) x h e = let n = number_at (k + 1) i slots x h e in omega arith
number_at k (suc i) (Some z ∷ slots) x h e = let n = number_at (k + 1) i slots x h.1 e in omega arith

pub numbered_set : (k i : ℕ) (slots : List (Option ThreadState)) (y : ThreadState) → IsNumbered k slots → y.number ≡ k + i → IsNumbered k (set slots i (Some y))
numbered_set k i [] y h e = tt
numbered_set k zero (None ∷ slots) y h e = (omega arith, h)
numbered_set k zero (Some z ∷ slots) y h e = (omega arith, h.1)
numbered_set k (suc i) (None ∷ slots) y h e = numbered_set (k + 1) i slots y h (omega arith)
numbered_set k (suc i) (Some z ∷ slots) y h e = (h.0, numbered_set (k + 1) i slots y h.1 (omega arith))

-- a change of a thread below the first place's number
change_below : (f : ThreadState → ThreadState) (k t : ℕ) (slots : List (Option ThreadState)) → t < k → IsNumbered k slots → change t f (started slots) ≡ started slots
change_below f k t [] lt h = refl
change_below f k t (None ∷ slots) lt h = change_below f (k + 1) t slots (omega arith) h
change_below f k t (Some x ∷ slots) lt h =
    rw (ne_eqb t x.number (λ e. let is = h.0 in omega arith)) (ap (λ xs. x ∷ xs) (change_below f (k + 1) t slots (omega arith) h.1))

-- a write of a changed thread is the change of that thread in the list
pub started_set : (f : ThreadState → ThreadState) (k i t : ℕ) (slots : List (Option ThreadState)) (x : ThreadState) → t ≡ k + i → IsNumbered k slots → get_or slots i None ≡ Some x → started (set slots i (Some (f x))) ≡ change t f (started slots)
started_set f k i t [] x n h e = absurd (cc)
started_set f k zero t (None ∷ slots) x n h e = absurd (cc)
started_set f k zero t (Some z ∷ slots) x n h e =
    let same : x ≡ z = cc in
    rw (eq-eqb t z.number (let is = h.0 in omega arith)) (λ i. f (same i) ∷ sym (change_below f (k + 1) t slots (omega arith) h.1) i)
started_set f k (suc i) t (None ∷ slots) x n h e = started_set f (k + 1) i t slots x (omega arith) h e
started_set f k (suc i) t (Some z ∷ slots) x n h e =
    rw (ne_eqb t z.number (λ s. let is = h.0 in omega arith)) (ap (λ xs. z ∷ xs) (started_set f (k + 1) i t slots x (omega arith) h.1 e))

-- a thread of lesser number than all others
first_of_all : (k : ℕ) (y : ThreadState) (slots : List (Option ThreadState)) → y.number < k → IsNumbered k slots → y ∷ started slots ≡ with_thread y (started slots)
first_of_all k y [] lt h = refl
first_of_all k y (None ∷ slots) lt h = first_of_all (k + 1) y slots (omega arith) h
first_of_all k y (Some x ∷ slots) lt h = rw (lt-ltb y.number x.number (let is = h.0 in omega arith)) refl

pub started_added : (k i : ℕ) (slots : List (Option ThreadState)) (y : ThreadState) → y.number ≡ k + i → i < length slots → IsNumbered k slots → get_or slots i None ≡ None → started (set slots i (Some y)) ≡ with_thread y (started slots)
started_added k i [] y n lt h e = absurd (omega arith)
started_added k zero (None ∷ slots) y n lt h e = first_of_all (k + 1) y slots (omega arith) h
started_added k zero (Some z ∷ slots) y n lt h e = absurd (cc)
started_added k (suc i) (None ∷ slots) y n lt h e = started_added (k + 1) i slots y (omega arith) (omega arith) h e
started_added k (suc i) (Some z ∷ slots) y n lt h e =
    let is = h.0 in
    rw (le-ltb y.number z.number (omega arith), ne_eqb y.number z.number (λ s. omega arith)) (ap (λ xs. z ∷ xs) (started_added (k + 1) i slots y (omega arith) (omega arith) h.1 e))

-- one where the test holds
abbrev pub one_if : Bool → ℕ
one_if b = cond b 1 0

pub count_set : (p : ThreadState → Bool) (i : ℕ) (slots : List (Option ThreadState)) (x y : ThreadState) → get_or slots i None ≡ Some x → count_by p (started (set slots i (Some y))) + one_if (p x) ≡ count_by p (started slots) + one_if (p y)
count_set p i [] x y e = absurd (cc)
count_set p zero (None ∷ slots) x y e = absurd (cc)
count_set p zero (Some z ∷ slots) x y e =
    let same : one_if (p z) ≡ one_if (p x) = ap (λ t. one_if (p t)) (let s : z ≡ x = cc in s) in
    let old = sum_by-cons (λ t. one_if (p t)) z (started slots) in
    let new = sum_by-cons (λ t. one_if (p t)) y (started slots) in
    omega arith
count_set p (suc i) (None ∷ slots) x y e = count_set p i slots x y e
count_set p (suc i) (Some z ∷ slots) x y e =
    let rest = count_set p i slots x y e in
    let old = sum_by-cons (λ t. one_if (p t)) z (started slots) in
    let new = sum_by-cons (λ t. one_if (p t)) z (started (set slots i (Some y))) in
    omega arith

pub count_added : (p : ThreadState → Bool) (i : ℕ) (slots : List (Option ThreadState)) (y : ThreadState) → i < length slots → get_or slots i None ≡ None → count_by p (started (set slots i (Some y))) ≡ count_by p (started slots) + one_if (p y)
count_added p i [] y lt e = absurd (omega arith)
count_added p zero (None ∷ slots) y lt e = let new = sum_by-cons (λ t. one_if (p t)) y (started slots) in omega arith
count_added p zero (Some z ∷ slots) y lt e = absurd (cc)
count_added p (suc i) (None ∷ slots) y lt e = count_added p i slots y (omega arith) e
count_added p (suc i) (Some z ∷ slots) y lt e =
    let rest = count_added p i slots y (omega arith) e in
    let old = sum_by-cons (λ t. one_if (p t)) z (started slots) in
    let new = sum_by-cons (λ t. one_if (p t)) z (started (set slots i (Some y))) in
    omega arith

-- some element passes where the count is above 0
pub any_is_count : {X : Type 0} (p : X → Bool) (xs : List X) → list_any p xs ≡ nat_lt 0 (count_by p xs)
any_is_count p [] = refl
any_is_count p (x ∷ xs) =
    rw (sum_by-cons (λ t. one_if (p t)) x xs)
    (elim (p x) as (λ b. (b || list_any p xs) ≡ nat_lt 0 (one_if b + count_by p xs)) [
      | true ↦ sym (lt-ltb 0 (1 + count_by p xs) (omega arith))
      | false ↦ any_is_count p xs ∙ ap (λ (n : ℕ). nat_lt 0 n) (zero_and (count_by p xs))
    ])
  where
    zero_and : (n : ℕ) → n ≡ 0 + n
    zero_and n = omega arith

pub length_started : (slots : List (Option ThreadState)) → length (started slots) ≤ length slots
length_started [] = omega arith
length_started (None ∷ slots) = omega (arith, length_started slots)
length_started (Some x ∷ slots) = omega (arith, length_started slots)

counted_below : (write : Bool) (k t : ℕ) (slots : List (Option ThreadState)) → t < k → IsNumbered k slots → locks_of (started slots) t write ≡ []
counted_below write k t [] lt h = refl
counted_below write k t (None ∷ slots) lt h = counted_below write (k + 1) t slots (omega arith) h
counted_below write k t (Some x ∷ slots) lt h =
    rw (ne_eqb x.number t (λ e. let is = h.0 in omega arith)) (counted_below write (k + 1) t slots (omega arith) h.1)

counted_from : (write : Bool) (k i t : ℕ) (slots : List (Option ThreadState)) → t ≡ k + i → IsNumbered k slots → locks_of (started slots) t write ≡ counted_at write (get_or slots i None)
counted_from write k i t [] n h = refl
counted_from write k zero t (None ∷ slots) n h = counted_below write (k + 1) t slots (omega arith) h
counted_from write k zero t (Some x ∷ slots) n h = rw (eq-eqb x.number t (let is = h.0 in omega arith)) refl
counted_from write k (suc i) t (None ∷ slots) n h = counted_from write (k + 1) i t slots (omega arith) h
counted_from write k (suc i) t (Some x ∷ slots) n h = rw (ne_eqb x.number t (λ e. let is = h.0 in omega arith)) (counted_from write (k + 1) i t slots (omega arith) h.1)

pub counted_found : (write : Bool) (t : ℕ) (slots : List (Option ThreadState)) → IsNumbered 0 slots → locks_of (started slots) t write ≡ counted_at write (get_or slots t None)
counted_found write t slots h = counted_from write 0 t t slots (omega arith) h
