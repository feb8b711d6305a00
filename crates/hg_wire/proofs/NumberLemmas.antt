-- A number is read exactly where the bytes spell it.
use Rattle.std.proofs.Common.{◌≡◌, ◌≢◌, ℕ, ◌+◌, ◌*◌, ◌^◌, ◌<◌, ◌≤◌, true, false, nat_eq, eqb, List, [], ◌∷◌, ◌++◌, length, drop, codes, Some, refl, sym, ◌∙◌, ap, subst, arith, inl, inr}
use Rattle.std.proofs.Math.Nat.{pow-suc, pow-zero}
use Rattle.std.proofs.lemmas.Bool.{and_parts, and_from, ltb-true, lt-ltb, leb-true, le-leb, eqb-true, false≢true, cond-true, cond-false, and_left, and_right, ne_eqb, cases_Bool}
use Rattle.std.proofs.lemmas.Option.{cond_some}
use Rattle.std.specs.Char.{digit_value, is_digit}
use Rattle.std.specs.List.{list_all, starts_with, AllByRecursion}
use Rattle.std.specs.Str.Parse.{AllDigits, digits_value, digits_value_after}
use Rattle.hg_wire.specs.Numbers.{value_of, IsNumeral, IsNumber, Decimal, Hexadecimal, numeral, number_of}

digits_value_step : (n b d p v : ℕ) → (n * b + d) * p + v ≡ n * (p * b) + (d * p + v)
digits_value_step n b d p v = omega arith

digits_value_after_is : (base n : ℕ) (cs : List ℕ) → digits_value_after base n cs ≡ n * base ^ length cs + value_of base cs
digits_value_after_is base n [] = simp pow-zero (omega arith)
digits_value_after_is base n (c ∷ cs) =
    digits_value_after_is base (n * base + digit_value c) cs ∙ rw (pow-suc base (length cs)) (digits_value_step n base (digit_value c) (base ^ length cs) (value_of base cs))

pub digits_value_is : (base : ℕ) (cs : List ℕ) → digits_value base cs ≡ value_of base cs
digits_value_is base cs = digits_value_after_is base 0 cs ∙ omega arith

pub all_digits_test : (base : ℕ) (cs : List ℕ) → AllDigits base cs → list_all (λ c. is_digit c base) cs ≡ true
all_digits_test base [] h = refl
all_digits_test base (c ∷ cs) h = and_from _ _ (lt-ltb _ _ h.0) (all_digits_test base cs h.1)

pub all_digits_tested : (base : ℕ) (cs : List ℕ) → list_all (λ c. is_digit c base) cs ≡ true → AllDigits base cs
all_digits_tested base [] h = tt
all_digits_tested base (c ∷ cs) h = let p = and_parts _ _ h in (ltb-true _ _ p.0, all_digits_tested base cs p.1)

pub numeral_reads : (base most : ℕ) (ds : List ℕ) → IsNumeral base most ds → numeral base most ds ≡ Some (value_of base ds)
numeral_reads base most ds h =
    cond-true _ _ _ (and_from _ _ (and_from _ _ (le-leb _ _ h.some) (le-leb _ _ h.few)) (all_digits_test base ds h.each)) ∙ ap Some (digits_value_is base ds)

pub numeral_spelled : (base most : ℕ) (ds : List ℕ) (n : ℕ) → numeral base most ds ≡ Some n → IsNumeral base most ds × (n ≡ value_of base ds)
numeral_spelled base most ds n h =
    let p = cond_some _ _ _ h in
    let q = and_parts _ _ p.0 in
    let r = and_parts _ _ q.0 in
    (record { some = leb-true _ _ r.0; few = leb-true _ _ r.1; each = all_digits_tested base ds q.1 }, sym p.1 ∙ digits_value_is base ds)

-- bytes that begin with `0x`
prefix_found : (bytes : List ℕ) → starts_with nat_eq bytes (codes "0x") ≡ true → bytes ≡ codes "0x" ++ drop 2 bytes
prefix_found [] h = absurd (false≢true h)
prefix_found (a ∷ []) h = absurd (false≢true ((and_parts _ _ h).1))
prefix_found (a ∷ b ∷ bytes) h =
    let p = and_parts _ _ h in
    let q = and_parts _ _ p.1 in
    let first : 48 ≡ a = eqb-true 48 a p.0 in
    let second : 120 ≡ b = eqb-true 120 b q.0 in
    cc

-- `x` is no decimal digit
prefix_no_decimal : (bytes : List ℕ) → AllDigits 10 bytes → starts_with nat_eq bytes (codes "0x") ≡ false
prefix_no_decimal [] h = refl
prefix_no_decimal (a ∷ []) h = and_right _ _ refl
prefix_no_decimal (a ∷ b ∷ bytes) h = and_right (eqb 48 a) _ (and_left _ _ (ne_eqb 120 b (λ e. let e' : digit_value 120 ≡ digit_value b = ap digit_value e in omega (arith, h.1.0))))

pub number_spelled : (bytes : List ℕ) (n : ℕ) → number_of bytes ≡ Some n → IsNumber bytes n
number_spelled bytes n h = elim (cases_Bool (starts_with nat_eq bytes (codes "0x"))) [
  | inl hexadecimal ↦ (let p = numeral_spelled 16 16 (drop 2 bytes) n (sym (cond-true _ _ _ hexadecimal) ∙ h) in
      Hexadecimal (drop 2 bytes) (prefix_found bytes hexadecimal) p.0 p.1)
  | inr decimal ↦ (let p = numeral_spelled 10 20 bytes n (sym (cond-false _ _ _ decimal) ∙ h) in Decimal p.0 p.1)
]

pub number_reads : (bytes : List ℕ) (n : ℕ) → IsNumber bytes n → number_of bytes ≡ Some n
number_reads bytes n (Decimal numeral is) = cond-false _ _ _ (prefix_no_decimal bytes numeral.each) ∙ (numeral_reads 10 20 bytes numeral ∙ ap Some (sym is))
number_reads bytes n (Hexadecimal digits spelled numeral is) = rw spelled (numeral_reads 16 16 digits numeral ∙ ap Some (sym is))

-- no digit is a space, and neither is the `x`
digits_no_byte : (base c : ℕ) (ds : List ℕ) → base ≤ digit_value c → AllDigits base ds → AllByRecursion (λ b. b ≢ c) ds
digits_no_byte base c [] high h = tt
digits_no_byte base c (d ∷ ds) high h = ((λ e. let e' = ap digit_value e in omega (arith, h.0)), digits_no_byte base c ds high h.1)

pub number_no_byte : (c : ℕ) (bytes : List ℕ) (n : ℕ) → 16 ≤ digit_value c → 120 ≢ c → IsNumber bytes n → AllByRecursion (λ b. b ≢ c) bytes
number_no_byte c bytes n high not_x (Decimal numeral is) = digits_no_byte 10 c bytes (omega arith) numeral.each
number_no_byte c bytes n high not_x (Hexadecimal digits spelled numeral is) =
    let P : List ℕ → Type 0 = AllByRecursion (λ b. b ≢ c) in
    let not_zero : 48 ≢ c = λ e. let e' : digit_value 48 ≡ digit_value c = ap digit_value e in omega arith in
    subst P (sym spelled) (not_zero, (not_x, digits_no_byte 16 c digits high numeral.each))

pub number_nonempty : (bytes : List ℕ) (n : ℕ) → IsNumber bytes n → 0 < length bytes
number_nonempty bytes n (Decimal numeral is) = omega (arith, numeral.some)
number_nonempty bytes n (Hexadecimal digits spelled numeral is) = rw spelled (omega arith)

pub number_short : (bytes : List ℕ) (n : ℕ) → IsNumber bytes n → length bytes ≤ 20
number_short bytes n (Decimal numeral is) = numeral.few
number_short bytes n (Hexadecimal digits spelled numeral is) = rw spelled (omega (arith, numeral.few))
