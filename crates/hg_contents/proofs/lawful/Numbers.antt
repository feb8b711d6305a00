-- The numbers below a bound that pass a test, as one more passes it.
use Rattle.std.proofs.Common.{◌≡◌, ◌⊎◌, inl, inr, ℕ, zero, suc, ◌+◌, ◌≤◌, ◌<◌, Bool, true, false, cond, ◌||◌, nat_eq, List, [], ◌∷◌, length, filter, refl, sym, ap, ◌∙◌, arith}
use Rattle.std.proofs.lemmas.Bool.{cases_eq, eq-eqb, le-ltb, lt-ltb, ne_eqb}
use Rattle.std.proofs.lemmas.List.FromFn.{length-range_with_len}
use Rattle.std.proofs.lemmas.List.Sums.{count_by-le-length, length-filter}
use Rattle.std.specs.List.{AllByRecursion, range_with_len}
use Rattle.hg_model.specs.Sets.{contains, with_member}
use Rattle.hg_contents.proofs.lawful.Ordering.{each_filter, range_above}

pub absent : (xs : List ℕ) (t : ℕ) → AllByRecursion (λ x. t < x) xs → contains xs t ≡ false
absent [] t all = refl
absent (x ∷ xs) t all = let lt = all.0 in ap (λ b. b || contains xs t) (ne_eqb x t (λ e. omega (arith, lt))) ∙ absent xs t all.1

above : (p : ℕ → Bool) (t a n : ℕ) → t < a → AllByRecursion (λ x. t < x) (filter p (range_with_len a n))
above p t a n lt = each_filter (λ x. t < x) p (range_with_len a n) (range_above t a n lt)

pub few_pass : (p : ℕ → Bool) (a n : ℕ) → length (filter p (range_with_len a n)) ≤ n
few_pass p a n = omega (arith, length-filter p (range_with_len a n), count_by-le-length p (range_with_len a n), length-range_with_len a n)

-- a number is among them where it passes
pub among : (p : ℕ → Bool) (a n t : ℕ) → a ≤ t → t < a + n → contains (filter p (range_with_len a n)) t ≡ p t
among p a zero t le lt = absurd (omega arith)
among p a (suc n) t le lt = pick (cases_eq a t) (among p (a + 1) n t)
  where
    here : a ≡ t → (b : Bool) → p a ≡ b → contains (cond b (a ∷ filter p (range_with_len (a + 1) n)) (filter p (range_with_len (a + 1) n))) t ≡ b
    here same true e = ap (λ b. b || contains (filter p (range_with_len (a + 1) n)) t) (eq-eqb a t same)
    here same false e = absent (filter p (range_with_len (a + 1) n)) t (above p t (a + 1) n (omega (arith, same)))

    there : (a ≡ t → ⊥) → contains (filter p (range_with_len (a + 1) n)) t ≡ p t → (b : Bool) → contains (cond b (a ∷ filter p (range_with_len (a + 1) n)) (filter p (range_with_len (a + 1) n))) t ≡ p t
    there other is true = ap (λ b. b || contains (filter p (range_with_len (a + 1) n)) t) (ne_eqb a t other) ∙ is
    there other is false = is

    pick : (a ≡ t) ⊎ (a ≡ t → ⊥) → (a + 1 ≤ t → t < a + 1 + n → contains (filter p (range_with_len (a + 1) n)) t ≡ p t) → contains (cond (p a) (a ∷ filter p (range_with_len (a + 1) n)) (filter p (range_with_len (a + 1) n))) t ≡ p t
    pick (inl same) later = here same (p a) refl ∙ ap p same
    pick (inr other) later = there other (later (omega (arith, le, other)) (omega (arith, lt))) (p a)

in_front : (c : ℕ) (xs : List ℕ) → AllByRecursion (λ x. c < x) xs → with_member xs c ≡ c ∷ xs
in_front c [] all = refl
in_front c (x ∷ xs) all = ap (λ b. cond b (c ∷ x ∷ xs) (cond (nat_eq c x) (x ∷ xs) (x ∷ with_member xs c))) (lt-ltb c x all.0)

module _ (p q : ℕ → Bool) (c : ℕ) (more : (t : ℕ) → q t ≡ (nat_eq c t || p t)) where
  behind : (a n : ℕ) → c < a → filter q (range_with_len a n) ≡ filter p (range_with_len a n)
  behind a zero lt = refl
  behind a (suc n) lt =
      let same : q a ≡ p a = more a ∙ ap (λ b. b || p a) (ne_eqb c a (λ e. omega (arith, e, lt))) in
      λ i. cond (same i) (a ∷ behind (a + 1) n (omega (arith, lt)) i) (behind (a + 1) n (omega (arith, lt)) i)

  here : (a n : ℕ) (xs : List ℕ) → a ≡ c → AllByRecursion (λ x. c < x) xs → (b : Bool) → a ∷ xs ≡ with_member (cond b (a ∷ xs) xs) c
  here a n xs same all true = sym (ap (λ b. cond b (c ∷ a ∷ xs) (cond (nat_eq c a) (a ∷ xs) (a ∷ with_member xs c))) (le-ltb c a (omega (arith, same))) ∙ ap (λ b. cond b (a ∷ xs) (a ∷ with_member xs c)) (eq-eqb c a (sym same)))
  here a n xs same all false = ap (λ (k : ℕ). k ∷ xs) same ∙ sym (in_front c xs all)

  there : (a : ℕ) (xs ys : List ℕ) → a < c → ys ≡ with_member xs c → (b : Bool) → cond b (a ∷ ys) ys ≡ with_member (cond b (a ∷ xs) xs) c
  there a xs ys lt is true = ap (λ zs. a ∷ zs) is ∙ sym (ap (λ b. cond b (c ∷ a ∷ xs) (cond (nat_eq c a) (a ∷ xs) (a ∷ with_member xs c))) (le-ltb c a (omega (arith, lt))) ∙ ap (λ b. cond b (a ∷ xs) (a ∷ with_member xs c)) (ne_eqb c a (λ e. omega (arith, e, lt))))
  there a xs ys lt is false = is

  -- those that pass with one more number
  pub one_more : (a n : ℕ) → a ≤ c → c < a + n → filter q (range_with_len a n) ≡ with_member (filter p (range_with_len a n)) c
  one_more a zero le lt = absurd (omega arith)
  one_more a (suc n) le lt = pick (cases_eq a c) (one_more (a + 1) n)
    where
      pick : (a ≡ c) ⊎ (a ≡ c → ⊥) → (a + 1 ≤ c → c < a + 1 + n → filter q (range_with_len (a + 1) n) ≡ with_member (filter p (range_with_len (a + 1) n)) c)
          → cond (q a) (a ∷ filter q (range_with_len (a + 1) n)) (filter q (range_with_len (a + 1) n)) ≡ with_member (cond (p a) (a ∷ filter p (range_with_len (a + 1) n)) (filter p (range_with_len (a + 1) n))) c
      pick (inl same) later =
          let passes : q a ≡ true = more a ∙ ap (λ b. b || p a) (eq-eqb c a (sym same)) in
          ap (λ b. cond b (a ∷ filter q (range_with_len (a + 1) n)) (filter q (range_with_len (a + 1) n))) passes
          ∙ ap (λ xs. a ∷ xs) (behind (a + 1) n (omega (arith, same)))
          ∙ here a n (filter p (range_with_len (a + 1) n)) same (above p c (a + 1) n (omega (arith, same))) (p a)
      pick (inr other) later =
          let same : q a ≡ p a = more a ∙ ap (λ b. b || p a) (ne_eqb c a (λ e. other (sym e))) in
          let rest = later (omega (arith, le, other)) (omega (arith, lt)) in
          ap (λ b. cond b (a ∷ filter q (range_with_len (a + 1) n)) (filter q (range_with_len (a + 1) n))) same
          ∙ there a (filter p (range_with_len (a + 1) n)) (filter q (range_with_len (a + 1) n)) (omega (arith, le, other)) rest (p a)
