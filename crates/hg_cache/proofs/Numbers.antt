-- Tests of numbers.
use Rattle.std.proofs.Common.{◌≡◌, ◌==◌, ℕ, Bool, true, false, if◌then◌else◌, refl, rules}

pub same_number : (a b : ℕ) → (a == b) ≡ true → a ≡ b
same_number a b is = grind rules

pub itself : (n : ℕ) → (n == n) ≡ true
itself n = grind rules

pub turned : (a b : ℕ) → (a == b) ≡ (b == a)
turned a b = grind rules

pub if_true : {A : Type 0} (b : Bool) (x y : A) → b ≡ true → (if b then x else y) ≡ x
if_true true x y is = refl
if_true false x y is = absurd (cc is)

pub if_false : {A : Type 0} (b : Bool) (x y : A) → b ≡ false → (if b then x else y) ≡ y
if_false true x y is = absurd (cc is)
if_false false x y is = refl
