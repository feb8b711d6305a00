-- Whether numbers rise, and whether all items have something, is seen at each of them.
use Rattle.std.proofs.Common.{◌≡◌, ◌↔◌, ◌+◌, ◌<◌, ◌≤◌, ◌⊎◌, inl, inr, ℕ, List, [], ◌∷◌, IsTrue, true, false, refl, sym, subst, arith}
use Rattle.std.specs.List.{AllByRecursion}
use Rattle.hg_model.specs.ThreadSets.{RisesFrom}

module _ (P : Type 0) (least : ℕ) (left : List ℕ) (so_far : P ↔ RisesFrom least left) where
  pub rises_on : (x : ℕ) (rest : List ℕ) → left ≡ x ∷ rest → least ≤ x → x ≤ 1023 → P ↔ RisesFrom (x + 1) rest
  rises_on x rest is low high = (
    λ p. (subst (RisesFrom least) is (so_far.0 p)).2,
    λ rises. so_far.1 (subst (RisesFrom least) (sym is) (low, high, rises)),
  )

  pub rises_not : (x : ℕ) (rest : List ℕ) → left ≡ x ∷ rest → (x < least) ⊎ (1023 < x) → IsTrue false ↔ P
  rises_not x rest is out = (λ no. absurd (cc no), λ p. absurd (none out (subst (RisesFrom least) is (so_far.0 p)))) where
    none : (x < least) ⊎ (1023 < x) → RisesFrom least (x ∷ rest) → ⊥
    none (inl low) rises = let is_low = rises.0 in omega (arith, low, is_low)
    none (inr high) rises = let is_high = rises.1 in omega (arith, high, is_high)

  pub rises_all : left ≡ [] → IsTrue true ↔ P
  rises_all is = (λ all. so_far.1 (subst (RisesFrom least) (sym is) tt), λ p. refl)

module _ {X : Type 0} (P : X → Type 0) (A : Type 0) (left : List X) (so_far : A ↔ AllByRecursion P left) where
  pub all_on : (x : X) (rest : List X) → left ≡ x ∷ rest → P x → A ↔ AllByRecursion P rest
  all_on x rest is has = (
    λ a. (subst (AllByRecursion P) is (so_far.0 a)).1,
    λ all. so_far.1 (subst (AllByRecursion P) (sym is) (has, all)),
  )

  pub all_not : (x : X) (rest : List X) → left ≡ x ∷ rest → ¬ P x → IsTrue false ↔ A
  all_not x rest is none = (λ no. absurd (cc no), λ a. absurd (none (subst (AllByRecursion P) is (so_far.0 a)).0))

  pub all_done : left ≡ [] → IsTrue true ↔ A
  all_done is = (λ all. so_far.1 (subst (AllByRecursion P) (sym is) tt), λ a. refl)
