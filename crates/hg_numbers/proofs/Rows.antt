-- What is found in a row and behind it.
use Rattle.std.proofs.Common.{◌≡◌, ℕ, zero, suc, ◌+◌, ◌<◌, ◌≤◌, Bool, true, false, cond, nat_eq, List, [], ◌∷◌, ◌++◌, Option, None, Some, length, set, get_or, refl, sym, ap, ◌∙◌, ⊎_elim, arith, get_or-set_same, get_or-set_other}
use Rattle.std.proofs.lemmas.Bool.{cases_eq, ne_eqb, eq-eqb}
use Rattle.std.proofs.lemmas.List.{get_or_past}
use Rattle.std.specs.Map.{lookup}
use Rattle.hg_numbers.specs.Rows.{entries_of, or_else}

-- a row from n on has no number below n
below : {T : Type 0} → (row : List (Option T)) (rest : List (ℕ × T)) (n k : ℕ) → k < n → lookup (nat_eq k) (entries_of n row ++ rest) ≡ lookup (nat_eq k) rest
below [] rest n k lt = refl
below (None ∷ row) rest n k lt = below row rest (n + 1) k (omega arith)
below (Some x ∷ row) rest n k lt = ap (λ b. cond b (Some x) (lookup (nat_eq k) (entries_of (n + 1) row ++ rest))) (ne_eqb k n (λ e. omega arith)) ∙ below row rest (n + 1) k (omega arith)

from_place : {T : Type 0} → (row : List (Option T)) (rest : List (ℕ × T)) (n i k : ℕ) → k ≡ n + i → lookup (nat_eq k) (entries_of n row ++ rest) ≡ or_else (get_or row i None) (lookup (nat_eq k) rest)
from_place [] rest n i k is = refl
from_place (None ∷ row) rest n zero k is = below row rest (n + 1) k (omega arith)
from_place (Some x ∷ row) rest n zero k is = ap (λ b. cond b (Some x) (lookup (nat_eq k) (entries_of (n + 1) row ++ rest))) (eq-eqb k n (omega arith))
from_place (None ∷ row) rest n (suc i) k is = from_place row rest (n + 1) i k (omega arith)
from_place (Some x ∷ row) rest n (suc i) k is = ap (λ b. cond b (Some x) (lookup (nat_eq k) (entries_of (n + 1) row ++ rest))) (ne_eqb k n (λ e. omega arith)) ∙ from_place row rest (n + 1) i k (omega arith)

-- what is found at a number: the value at its place in the row, or what stands behind the row
pub found : {T : Type 0} → (row : List (Option T)) (rest : List (ℕ × T)) (k : ℕ) → lookup (nat_eq k) (entries_of 0 row ++ rest) ≡ or_else (get_or row k None) (lookup (nat_eq k) rest)
found row rest k = from_place row rest 0 k k (omega arith)

-- What is found at each number, where the value at number n becomes x.
pub becomes : {T : Type 0} → (row new_row : List (Option T)) (rest new_rest : List (ℕ × T)) (n : ℕ) (x : Option T) →
    ((k : ℕ) → or_else (get_or new_row k None) (lookup (nat_eq k) new_rest) ≡ cond (nat_eq n k) x (or_else (get_or row k None) (lookup (nat_eq k) rest))) →
    (k : ℕ) → lookup (nat_eq k) (entries_of 0 new_row ++ new_rest) ≡ cond (nat_eq n k) x (lookup (nat_eq k) (entries_of 0 row ++ rest))
becomes row new_row rest new_rest n x same k = found new_row new_rest k ∙ same k ∙ ap (cond (nat_eq n k) x) (sym (found row rest k))

-- a value that is set in the row
pub set_in_row : {T : Type 0} → (row : List (Option T)) (rest : List (ℕ × T)) (n : ℕ) (x : T) → n < length row →
    (k : ℕ) → lookup (nat_eq k) (entries_of 0 (set row n (Some x)) ++ rest) ≡ cond (nat_eq n k) (Some x) (lookup (nat_eq k) (entries_of 0 row ++ rest))
set_in_row row rest n x lt = becomes row (set row n (Some x)) rest rest n (Some x) (λ k. ⊎_elim
    (λ same. ap (λ v. or_else v (lookup (nat_eq k) rest)) (ap (λ j. get_or (set row n (Some x)) j None) (sym same) ∙ get_or-set_same row n (Some x) None lt) ∙ ap (λ b. cond b (Some x) (or_else (get_or row k None) (lookup (nat_eq k) rest))) (sym (eq-eqb n k same)))
    (λ differs. ap (λ v. or_else v (lookup (nat_eq k) rest)) (get_or-set_other row n k (Some x) None (λ e. differs (sym e))) ∙ ap (λ b. cond b (Some x) (or_else (get_or row k None) (lookup (nat_eq k) rest))) (sym (ne_eqb n k differs)))
    (cases_eq n k))

-- a value that is set behind the row
pub set_behind : {T : Type 0} → (row : List (Option T)) (rest new : List (ℕ × T)) (n : ℕ) (x : T) → length row ≤ n → ((k : ℕ) → lookup (nat_eq k) new ≡ cond (nat_eq n k) (Some x) (lookup (nat_eq k) rest)) →
    (k : ℕ) → lookup (nat_eq k) (entries_of 0 row ++ new) ≡ cond (nat_eq n k) (Some x) (lookup (nat_eq k) (entries_of 0 row ++ rest))
set_behind row rest new n x past is = becomes row row rest new n (Some x) (λ k. ap (or_else (get_or row k None)) (is k) ∙ ⊎_elim
    (λ same. ap (λ v. or_else v (cond (nat_eq n k) (Some x) (lookup (nat_eq k) rest))) (get_or_past row k None (omega arith)) ∙ ap (λ b. cond b (Some x) (lookup (nat_eq k) rest)) (eq-eqb n k same) ∙ ap (λ b. cond b (Some x) (or_else (get_or row k None) (lookup (nat_eq k) rest))) (sym (eq-eqb n k same)))
    (λ differs. ap (λ b. or_else (get_or row k None) (cond b (Some x) (lookup (nat_eq k) rest))) (ne_eqb n k differs) ∙ ap (λ b. cond b (Some x) (or_else (get_or row k None) (lookup (nat_eq k) rest))) (sym (ne_eqb n k differs)))
    (cases_eq n k))

-- a value that is taken away from the row and from behind it
pub taken : {T : Type 0} → (row new_row : List (Option T)) (rest new : List (ℕ × T)) (n : ℕ) → ((k : ℕ) → get_or new_row k None ≡ cond (nat_eq n k) None (get_or row k None)) → ((k : ℕ) → lookup (nat_eq k) new ≡ cond (nat_eq n k) None (lookup (nat_eq k) rest)) →
    (k : ℕ) → lookup (nat_eq k) (entries_of 0 new_row ++ new) ≡ cond (nat_eq n k) None (lookup (nat_eq k) (entries_of 0 row ++ rest))
taken row new_row rest new n in_row behind = becomes row new_row rest new n None (λ k. (λ i. or_else (in_row k i) (behind k i)) ∙ both (nat_eq n k) (get_or row k None) (lookup (nat_eq k) rest))
  where
    both : {T : Type 0} → (b : Bool) (one other : Option T) → or_else (cond b None one) (cond b None other) ≡ cond b None (or_else one other)
    both true one other = refl
    both false one other = refl

-- A row that has the same values at its places has the same with what stands behind it.
pub same_found : {T : Type 0} → (row new_row : List (Option T)) (rest new : List (ℕ × T)) → ((k : ℕ) → get_or new_row k None ≡ get_or row k None) → ((k : ℕ) → lookup (nat_eq k) new ≡ lookup (nat_eq k) rest) →
    (k : ℕ) → lookup (nat_eq k) (entries_of 0 new_row ++ new) ≡ lookup (nat_eq k) (entries_of 0 row ++ rest)
same_found row new_row rest new in_row behind k = found new_row new k ∙ (λ i. or_else (in_row k i) (behind k i)) ∙ sym (found row rest k)
