-- Whether numbers that rise are those of threads is told by how many they are, and by the last.
use Rattle.std.proofs.Common.{◌≡◌, ◌⊎◌, ⊎_elim, ◌<◌, ◌≤◌, ◌-◌, ℕ, false, cond, nat_le, List, length, get_or, sym, ap, ◌∙◌, arith, le-leb, le-ltb, lt-ltb}
use Rattle.std.proofs.lemmas.Bool.{false≢true, lt-leb}
use Rattle.std.specs.Prelude.{◌↔◌, IsTrue}
use Rattle.std.specs.List.{All}
use Rattle.std.specs.List.Sorted.{IsStrictlyIncreasing}
use Rattle.std.proofs.lemmas.Map.Keys.{below_from_sorted, sorted_from_strictly_increasing}
use Rattle.std.proofs.lemmas.List.{get_or_default}
use Rattle.hg_model.specs.declared.limits.TheConstants.{GREATEST_THREAD}
use Rattle.hg_sets.specs.Interning.{AreThreads}
use Rattle.hg_sets.specs.Listing.{is_of_threads}

before_last : (k n : ℕ) → k < n → (k < n - 1) ⊎ (k ≡ n - 1)
before_last k n lt = grind arith

below : (n m : ℕ) → (n < m) ⊎ (m ≤ n)
below n m = grind arith

none_above_last : (xs : List ℕ) (most : ℕ) → IsStrictlyIncreasing xs → get_or xs (length xs - 1) 0 ≤ most → All (λ x. x ≤ most) xs
none_above_last xs most rising last k d lt =
    let here : get_or xs k d ≡ get_or xs k 0 = get_or_default xs k d 0 lt in
    ⊎_elim (λ (before : k < length xs - 1). omega (arith, here, last, below_from_sorted xs k (length xs - 1) 0 (sorted_from_strictly_increasing xs rising) before (omega (arith, lt))))
    (λ (same : k ≡ length xs - 1). omega (arith, here, last, ap (λ (n : ℕ). get_or xs n 0) same))
    (before_last k (length xs) lt)

by_last : (xs : List ℕ) → IsStrictlyIncreasing xs → 2 ≤ length xs → IsTrue (nat_le (get_or xs (length xs - 1) 0) GREATEST_THREAD) ↔ AreThreads xs
by_last xs rising several =
    let last = get_or xs (length xs - 1) 0 in
    ⊎_elim
    (λ (above : GREATEST_THREAD < last). (
      λ is. absurd (false≢true (sym (lt-leb last GREATEST_THREAD above) ∙ is)),
      λ are. absurd (omega (arith, above, get_or_default xs (length xs - 1) 0 0 (omega (arith, several)), are.threads (length xs - 1) 0 (omega (arith, several)))),
    ))
    (λ (within : last ≤ GREATEST_THREAD). (
      λ is. record { several = several; threads = none_above_last xs GREATEST_THREAD rising within },
      λ are. le-leb last GREATEST_THREAD within,
    ))
    (below GREATEST_THREAD last)

pub are_threads : (xs : List ℕ) → IsStrictlyIncreasing xs → IsTrue (is_of_threads xs) ↔ AreThreads xs
are_threads xs rising =
    let last = get_or xs (length xs - 1) 0 in
    ⊎_elim
    (λ (few : length xs < 2). (
      λ is. absurd (false≢true (sym (ap (λ b. cond b false (nat_le last GREATEST_THREAD)) (lt-ltb (length xs) 2 few)) ∙ is)),
      λ are. absurd (omega (arith, few, are.several)),
    ))
    (λ (several : 2 ≤ length xs).
    let same : is_of_threads xs ≡ nat_le last GREATEST_THREAD = ap (λ b. cond b false (nat_le last GREATEST_THREAD)) (le-ltb (length xs) 2 several) in
    let by = by_last xs rising several in
    (λ is. by.0 (sym same ∙ is), λ are. same ∙ by.1 are))
    (below (length xs) 2)
