-- Numbers of the items of a list that rise, as a loop finds out.
use Rattle.std.proofs.Common.{◌≡◌, inl, inr, ℕ, ◌+◌, ◌-◌, ◌<◌, ◌≤◌, List, length, map, get_or, ap, ◌∙◌, arith}
use Rattle.std.specs.Prelude.{slice_index}
use Rattle.std.specs.List.Sorted.{IsStrictlyIncreasing}
use Rattle.std.proofs.lemmas.Bool.{cases_lt}
use Rattle.std.proofs.lemmas.List.{get_or-map, length-map}

module _ {X : Type 0} (f : X → ℕ) where
  -- the first i rise
  abbrev pub RisesTo : List X → ℕ → Type 0
  RisesTo xs i = (k : ℕ) → k + 1 < i → slice_index (map f xs) k < slice_index (map f xs) (k + 1)

  pub rises_on : (xs : List X) (i : ℕ) (d : X) → 1 ≤ i → i < length xs → f (get_or xs (i - 1) d) < f (get_or xs i d) → RisesTo xs i → RisesTo xs (i + 1)
  rises_on xs i d some within less so_far k lt =
      elim (cases_lt (k + 1) i) [
        | inl before ↦ so_far k before
        | inr last ↦
            let here : k + 1 ≡ i = omega arith in
            let back : k ≡ i - 1 = omega arith in
            let one : slice_index (map f xs) k ≡ f (get_or xs (i - 1) d) = ap (λ (n : ℕ). slice_index (map f xs) n) back ∙ get_or-map f xs (i - 1) d 0 (omega arith) in
            let other : slice_index (map f xs) (k + 1) ≡ f (get_or xs i d) = ap (λ (n : ℕ). slice_index (map f xs) n) here ∙ get_or-map f xs i d 0 within in
            omega (arith, one, other, less)
      ]

  pub rises_not : (xs : List X) (i : ℕ) (d : X) → 1 ≤ i → i < length xs → f (get_or xs i d) ≤ f (get_or xs (i - 1) d) → IsStrictlyIncreasing (map f xs) → ⊥
  rises_not xs i d some within more rises =
      let there : i - 1 + 1 ≡ i = omega arith in
      let step : slice_index (map f xs) (i - 1) < slice_index (map f xs) (i - 1 + 1) = rises (i - 1) (omega (arith, length-map xs f)) in
      let one : slice_index (map f xs) (i - 1) ≡ f (get_or xs (i - 1) d) = get_or-map f xs (i - 1) d 0 (omega arith) in
      let other : slice_index (map f xs) (i - 1 + 1) ≡ f (get_or xs i d) = ap (λ (n : ℕ). slice_index (map f xs) n) there ∙ get_or-map f xs i d 0 within in
      omega (arith, one, other, step, more)
