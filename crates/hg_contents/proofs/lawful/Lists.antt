-- Lists whose items all obey a rule.
use Rattle.std.proofs.Common.{◌≡◌, ℕ, zero, suc, ◌≤◌, Bool, true, false, cond, List, [], ◌∷◌, ◌++◌, length, map, filter, take, refl, arith}
use Rattle.std.proofs.lemmas.List.{length-map}
use Rattle.std.specs.List.{AllByRecursion}

module _ {X : Type 0} (P : X → Type 0) where
  pub each_both : (xs ys : List X) → AllByRecursion P xs → AllByRecursion P ys → AllByRecursion P (xs ++ ys)
  each_both [] ys all more = more
  each_both (x ∷ xs) ys all more = (all.0, each_both xs ys all.1 more)

  pub each_taken : (n : ℕ) (xs : List X) → AllByRecursion P xs → AllByRecursion P (take n xs)
  each_taken zero xs all = tt
  each_taken (suc n) [] all = tt
  each_taken (suc n) (x ∷ xs) all = (all.0, each_taken n xs all.1)

  pub each_weaker : (Q : X → Type 0) → ((x : X) → P x → Q x) → (xs : List X) → AllByRecursion P xs → AllByRecursion Q xs
  each_weaker Q weaker [] all = tt
  each_weaker Q weaker (x ∷ xs) all = (weaker x all.0, each_weaker Q weaker xs all.1)

  pub each_is : ((x : X) → P x) → (xs : List X) → AllByRecursion P xs
  each_is is [] = tt
  each_is is (x ∷ xs) = (is x, each_is is xs)

  pub each_with : (Q R : X → Type 0) → ((x : X) → P x → Q x → R x) → (xs : List X) → AllByRecursion P xs → AllByRecursion Q xs → AllByRecursion R xs
  each_with Q R both [] all more = tt
  each_with Q R both (x ∷ xs) all more = (both x all.0 more.0, each_with Q R both xs all.1 more.1)

-- what a filter keeps passes its test
pub each_kept : {X : Type 0} (p : X → Bool) (xs : List X) → AllByRecursion (λ x. p x ≡ true) (filter p xs)
each_kept p [] = tt
each_kept p (x ∷ xs) = pick (each_kept p xs) (p x) refl
  where
    pick : AllByRecursion (λ y. p y ≡ true) (filter p xs) → (b : Bool) → p x ≡ b → AllByRecursion (λ y. p y ≡ true) (cond b (x ∷ filter p xs) (filter p xs))
    pick rest true e = (e, rest)
    pick rest false e = rest

pub each_mapped : {X Y : Type 0} (P : Y → Type 0) (f : X → Y) (xs : List X) → AllByRecursion (λ x. P (f x)) xs → AllByRecursion P (map f xs)
each_mapped P f [] all = tt
each_mapped P f (x ∷ xs) all = (all.0, each_mapped P f xs all.1)

pub mapped_few : {X Y : Type 0} (f : X → Y) (xs : List X) (m : ℕ) → length xs ≤ m → length (map f xs) ≤ m
mapped_few f xs m few = omega (arith, few, length-map xs f)

pub few_mapped : {X Y : Type 0} (f : X → Y) (xs : List X) (m : ℕ) → length (map f xs) ≤ m → length xs ≤ m
few_mapped f xs m few = omega (arith, few, length-map xs f)
