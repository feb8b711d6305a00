-- The sources that sent something, with their last numbers.
use Rattle.std.proofs.Common.{◌≡◌, ◌⊎◌, inl, inr, ℕ, zero, suc, ◌+◌, ◌≤◌, ◌<◌, ◌^◌, Bool, true, false, cond, nat_lt, List, [], ◌∷◌, length, map, filter, sum, refl, sym, ap, ap, ◌∙◌, subst, arith}
use Rattle.std.specs.Prelude.{sum_by}
use Rattle.std.specs.List.{AllByRecursion, range_with_len}
use Rattle.std.specs.List.Sorted.{IsStrictlyIncreasing}
use Rattle.std.proofs.lemmas.Bool.{cases_eq, cases_lt, eq-eqb, ltb-false, ltb-true, ne_eqb}
use Rattle.std.proofs.lemmas.List.Elements.{All-from_recursion}
use Rattle.std.proofs.lemmas.List.Sums.{sum_by-cons}
use Rattle.hg_model.proofs.Rising.{From, from_less, increasing_from}
use Rattle.hg_root.specs.declared.parts.SourceCount.{SourceCount}
use Rattle.hg_root.specs.Checking.{last_number}
use Rattle.hg_root.specs.Grammar.{SourceFits}
use Rattle.hg_root.specs.Lawful as root
use Rattle.hg_contents.specs.Lawful.{HaveSent, sources}
use Rattle.hg_contents.specs.Heads.{source_counts}
use Rattle.hg_contents.proofs.lawful.Lists.{each_kept, each_mapped, each_with, mapped_few}
use Rattle.hg_contents.proofs.lawful.Numbers.{few_pass}
use Rattle.hg_contents.proofs.lawful.Ordering.{each_filter}

module _ (last : ℕ → ℕ) where
  abbrev count : ℕ → SourceCount
  count s = record { source = s; last = last s }

  abbrev sends : ℕ → Bool
  sends s = nat_lt 0 (last s)

  named : (xs : List ℕ) → map (λ s. s.source) (map count xs) ≡ xs
  named [] = refl
  named (x ∷ xs) = λ i. x ∷ named xs i

  sent : (xs : List ℕ) → sum (map (λ s. s.last) (map count (filter sends xs))) ≡ sum_by last xs
  sent [] = refl
  sent (x ∷ xs) = pick (sent xs) (sends x) refl
    where
      pick : sum (map (λ s. s.last) (map count (filter sends xs))) ≡ sum_by last xs → (b : Bool) → sends x ≡ b → sum (map (λ s. s.last) (map count (cond b (x ∷ filter sends xs) (filter sends xs)))) ≡ sum_by last (x ∷ xs)
      pick rest true e =
          let one = sum_by-cons (λ (n : ℕ). n) (last x) (map (λ s. s.last) (map count (filter sends xs))) in
          let other = sum_by-cons last x xs in
          omega (arith, one, other, rest)
      pick rest false e =
          let none = ltb-false 0 (last x) e in
          let other = sum_by-cons last x xs in
          omega (arith, none, other, rest)

  from_range : (a n : ℕ) → From a (filter sends (range_with_len a n))
  from_range a zero = tt
  from_range a (suc n) = pick (subst (λ (m : ℕ). From m (filter sends (range_with_len (a + 1) n))) (let up : a + 1 ≡ suc a = omega arith in up) (from_range (a + 1) n)) (sends a)
    where
      pick : From (suc a) (filter sends (range_with_len (a + 1) n)) → (b : Bool) → From a (cond b (a ∷ filter sends (range_with_len (a + 1) n)) (filter sends (range_with_len (a + 1) n)))
      pick rest true = (omega arith, rest)
      pick rest false = from_less a (suc a) _ (omega arith) rest

  pub counts_rise : IsStrictlyIncreasing (map (λ s. s.source) (source_counts last))
  unfolding sources
  counts_rise = subst IsStrictlyIncreasing (sym (named (filter sends (range_with_len 0 1024)))) (increasing_from 0 (filter sends (range_with_len 0 1024)) (from_range 0 1024))

  range_small : (a n : ℕ) → a + n ≤ 1024 → AllByRecursion (λ s. s ≤ 1023) (range_with_len a n)
  range_small a zero le = tt
  range_small a (suc n) le = (omega (arith, le), range_small (a + 1) n (omega (arith, le)))

  pub each_count : AllByRecursion (λ s. (s.source ≤ 1023) × (1 ≤ s.last)) (source_counts last)
  unfolding sources
  each_count =
      each_mapped (λ s. (s.source ≤ 1023) × (1 ≤ s.last)) count (filter sends (range_with_len 0 1024))
      (each_with (λ s. s ≤ 1023) (λ s. sends s ≡ true) (λ s. (s ≤ 1023) × (1 ≤ last s)) (λ s small some. (small, (let lt = ltb-true 0 (last s) some in omega (arith, lt)))) (filter sends (range_with_len 0 1024))
      (each_filter (λ s. s ≤ 1023) sends (range_with_len 0 1024) (range_small 0 1024 (omega arith))) (each_kept sends (range_with_len 0 1024)))

  each_least : (xs : List ℕ) (m : ℕ) → sum_by last xs ≤ m → AllByRecursion (λ s. last s ≤ m) xs
  each_least [] m le = tt
  each_least (x ∷ xs) m le = let one = sum_by-cons last x xs in (omega (arith, one, le), each_least xs m (omega (arith, one, le)))

  pub have_sent : (events : ℕ) → HaveSent events last → root.HaveSent events (source_counts last)
  have_sent events have = record { rising = counts_rise; each = All-from_recursion (λ (s : SourceCount). (s.source ≤ 1023) × (1 ≤ s.last)) (source_counts last) each_count; sum = sent sources ∙ have.sum }

  pub counts_fit : (events : ℕ) → HaveSent events last → events ≤ 2 ^ 58 → AllByRecursion SourceFits (source_counts last)
  counts_fit events have few =
      each_with (λ s. (s.source ≤ 1023) × (1 ≤ s.last)) (λ s. s.last ≤ events) SourceFits (λ s is le. let small = is.0 in (omega (arith, small), omega (arith, le, few))) (source_counts last) each_count
      (each_mapped (λ s. s.last ≤ events) count (filter sends sources) (each_filter (λ s. last s ≤ events) sends sources (each_least sources events (let sum = have.sum in omega (arith, sum)))))

  pub counts_few : length (source_counts last) ≤ 1024
  unfolding sources
  counts_few = mapped_few count (filter sends (range_with_len 0 1024)) 1024 (few_pass sends 0 1024)

  -- what is read of the counts again
  nothing_read : (a n source : ℕ) → source < a → last_number (map count (filter sends (range_with_len a n))) source ≡ 0
  nothing_read a zero source lt = refl
  nothing_read a (suc n) source lt = pick (nothing_read (a + 1) n source (omega (arith, lt))) (sends a)
    where
      pick : last_number (map count (filter sends (range_with_len (a + 1) n))) source ≡ 0 → (b : Bool) → last_number (map count (cond b (a ∷ filter sends (range_with_len (a + 1) n)) (filter sends (range_with_len (a + 1) n)))) source ≡ 0
      pick rest true = ap (λ b. cond b (last a) (last_number (map count (filter sends (range_with_len (a + 1) n))) source)) (ne_eqb a source (λ e. omega (arith, e, lt))) ∙ rest
      pick rest false = rest

  one_read : (a n source : ℕ) → a ≤ source → source < a + n → last_number (map count (filter sends (range_with_len a n))) source ≡ last source
  one_read a zero source le lt = absurd (omega arith)
  one_read a (suc n) source le lt = pick (cases_eq a source) (one_read (a + 1) n source) (sends a) refl
    where
      pick : (a ≡ source) ⊎ (a ≡ source → ⊥) → (a + 1 ≤ source → source < a + 1 + n → last_number (map count (filter sends (range_with_len (a + 1) n))) source ≡ last source) → (b : Bool) → sends a ≡ b
          → last_number (map count (cond b (a ∷ filter sends (range_with_len (a + 1) n)) (filter sends (range_with_len (a + 1) n)))) source ≡ last source
      pick (inl same) rest true e = ap (λ b. cond b (last a) (last_number (map count (filter sends (range_with_len (a + 1) n))) source)) (eq-eqb a source same) ∙ ap last same
      pick (inl same) rest false e =
          let none = ltb-false 0 (last a) e in
          let zero_here : last a ≡ 0 = omega (arith, none) in
          nothing_read (a + 1) n source (omega (arith, same)) ∙ sym zero_here ∙ ap last same
      pick (inr other) rest true e = ap (λ b. cond b (last a) (last_number (map count (filter sends (range_with_len (a + 1) n))) source)) (ne_eqb a source other) ∙ rest (omega (arith, le, other)) (omega (arith, lt))
      pick (inr other) rest false e = rest (omega (arith, le, other)) (omega (arith, lt))

  past_all : (a n source : ℕ) → a + n ≤ source → last_number (map count (filter sends (range_with_len a n))) source ≡ 0
  past_all a zero source le = refl
  past_all a (suc n) source le = pick (past_all (a + 1) n source (omega (arith, le))) (sends a)
    where
      pick : last_number (map count (filter sends (range_with_len (a + 1) n))) source ≡ 0 → (b : Bool) → last_number (map count (cond b (a ∷ filter sends (range_with_len (a + 1) n)) (filter sends (range_with_len (a + 1) n)))) source ≡ 0
      pick rest true = ap (λ b. cond b (last a) (last_number (map count (filter sends (range_with_len (a + 1) n))) source)) (ne_eqb a source (λ e. omega (arith, e, le))) ∙ rest
      pick rest false = rest

  pub read_again : (events source : ℕ) → HaveSent events last → last_number (source_counts last) source ≡ last source
  unfolding sources
  read_again events source have = pick (cases_lt source 1024)
    where
      pick : (source < 1024) ⊎ (1024 ≤ source) → last_number (map count (filter sends (range_with_len 0 1024))) source ≡ last source
      pick (inl lt) = one_read 0 1024 source (omega arith) (omega (arith, lt))
      pick (inr le) = past_all 0 1024 source (omega (arith, le)) ∙ sym (have.others source (omega (arith, le)))
