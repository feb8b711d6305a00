-- Items that move on by one.
use Rattle.std.proofs.Common.{◌≡◌, ℕ, zero, suc, ◌+◌, ◌<◌, ◌≤◌, List, [], ◌∷◌, ◌++◌, length, set, get_or, take, drop, refl, ap, subst, arith}

one_moved : {X : Type 0} (xs ys : List X) (i : ℕ) (d : X) → i < length xs → i < length ys → set (take i ys ++ drop i xs) i (get_or ys i d) ≡ take (suc i) ys ++ drop (suc i) xs
one_moved [] ys i d lt lt' = absurd (omega arith)
one_moved (x ∷ xs) [] i d lt lt' = absurd (omega arith)
one_moved (x ∷ xs) (y ∷ ys) zero d lt lt' = refl
one_moved (x ∷ xs) (y ∷ ys) (suc i) d lt lt' = ap (λ rest. y ∷ rest) (one_moved xs ys i d (omega arith) (omega arith))

-- one more has moved
pub more_moved : {X : Type 0} (xs ys : List X) (i : ℕ) (d : X) → i < length xs → i < length ys → set (take i ys ++ drop i xs) i (get_or ys i d) ≡ take (i + 1) ys ++ drop (i + 1) xs
more_moved xs ys i d lt lt' =
    let one : suc i ≡ i + 1 = omega arith in
    subst (λ n. set (take i ys ++ drop i xs) i (get_or ys i d) ≡ take n ys ++ drop n xs) one (one_moved xs ys i d lt lt')

-- from here on none has moved
pub not_moved : {X : Type 0} (xs ys : List X) (i k : ℕ) (d : X) → i ≤ k → i ≤ length xs → i ≤ length ys → get_or (take i ys ++ drop i xs) k d ≡ get_or xs k d
not_moved xs ys zero k d le within within' = refl
not_moved xs ys (suc i) zero d le within within' = absurd (omega arith)
not_moved [] ys (suc i) (suc k) d le within within' = absurd (omega arith)
not_moved (x ∷ xs) [] (suc i) (suc k) d le within within' = absurd (omega arith)
not_moved (x ∷ xs) (y ∷ ys) (suc i) (suc k) d le within within' = not_moved xs ys i k d (omega arith) (omega arith) (omega arith)
