-- A whole token that is read as a number.
use Rattle.std.proofs.Common.{◌≡◌, ℕ, suc, ◌+◌, ◌*◌, ◌^◌, ◌<◌, ◌≤◌, ltb, List, [], ◌∷◌, length, get_or, take, Option, Some, None, Result, Ok, Err, refl, sym, ◌∙◌, ap, subst, arith, inl, inr}
use Rattle.std.proofs.Math.Nat.{pow-suc, pow-le-pow_right, mul-le-mul_left}
use Rattle.std.proofs.lemmas.Option.{cond_some}
use Rattle.std.proofs.lemmas.Bool.{cases_Bool, ltb-false, cond-true, cond-false, and_from, le-leb, lt-ltb, le-ltb, ltb-true, false_from_ne_true}
use Rattle.std.proofs.lemmas.Int.Digits.{digits_more, digits_value_more}
use Rattle.std.specs.Char.{digit_value}
use Rattle.std.specs.Result.{OkIff, result_ok}
use Rattle.std.specs.Str.Parse.{AllDigits, digits_value}
use Rattle.hg_wire.specs.Numbers.{numeral}
use Rattle.hg_wire.specs.Lines.{fitting}
use Rattle.hg_wire.proofs.NumberLemmas.{all_digits_test}

-- the first i digits are digits, and the value is theirs
pub record IsReadTo (base : ℕ) (digits : List ℕ) (i value : ℕ) : Type 0 where
  pub each : AllDigits base (take i digits)
  pub read : value ≡ digits_value base (take i digits)
  pub small : value < 16 ^ i

pub read_starts : (base : ℕ) (digits : List ℕ) → IsReadTo base digits 0 0
read_starts base digits = record { each = tt; read = refl; small = omega arith }

-- one more digit still leaves room in 128 bits
pub room_for_digit : (base i value digit : ℕ) → value < 16 ^ i → base ≤ 16 → digit < base → i < 20 → (value * base + digit < 16 ^ (i + 1)) × (16 ^ (i + 1) ≤ 2 ^ 80)
room_for_digit base i value digit small low below few =
    let more : 16 ^ suc i ≡ 16 ^ i * 16 = pow-suc 16 i in
    let next : 16 ^ (i + 1) ≡ 16 ^ i * 16 = (let e : i + 1 ≡ suc i = omega arith in ap (λ k. 16 ^ k) e ∙ more) in
    let within : 16 ^ suc i ≤ 16 ^ 20 = pow-le-pow_right {n = 16} (omega arith) {i = suc i} {j = 20} (omega arith) in
    let times : value * base ≤ value * 16 = mul-le-mul_left value low in
    (omega arith, omega arith)

pub read_grows : (base : ℕ) (digits : List ℕ) (i value digit : ℕ) → base ≤ 16 → i < 20 → i < length digits → digit ≡ digit_value (get_or digits i 0) → digit < base
    → IsReadTo base digits i value → IsReadTo base digits (i + 1) (value * base + digit)
read_grows base digits i value digit low few within is below h =
    record {
      each = digits_more base digits i within h.each (subst (λ d. d < base) is below);
      read = ap (λ v. v * base + digit) h.read ∙ (ap (λ d. digits_value base (take i digits) * base + d) is ∙ sym (digits_value_more base digits i within));
      small = (room_for_digit base i value digit h.small low below few).0;
    }

take_all : (digits : List ℕ) → take (length digits) digits ≡ digits
take_all [] = refl
take_all (d ∷ digits) = ap (λ ds. d ∷ ds) (take_all digits)

-- what is read of the whole
pub read_whole : (base most : ℕ) (digits : List ℕ) (i value : ℕ) → i ≡ length digits → 1 ≤ length digits → length digits ≤ most → IsReadTo base digits i value
    → numeral base most digits ≡ Some value
read_whole base most digits i value ends some few h =
    let whole : take i digits ≡ digits = rw ends (take_all digits) in
    let each : AllDigits base digits = subst (AllDigits base) whole h.each in
    cond-true _ _ _ (and_from _ _ (and_from _ _ (le-leb _ _ some) (le-leb _ _ few)) (all_digits_test base digits each))
    ∙ ap Some (sym (h.read ∙ ap (digits_value base) whole))

-- the value, where it fits 64 bits
pub fits_ok : {E : Type 0} (r : Result ℕ E) (o : Option ℕ) (value : ℕ) → OkIff r (value < 2 ^ 64) value → o ≡ result_ok r → o ≡ fitting 64 (Some value)
fits_ok (Ok x) o value h e = e ∙ (ap Some h.1 ∙ sym (cond-true _ _ _ (lt-ltb _ _ h.0)))
fits_ok (Err fault) o value h e = e ∙ sym (cond-false _ _ _ (false_from_ne_true _ (λ t. h (ltb-true _ _ t))))

-- what 64 bits say of fewer
pub narrow_none : (width : ℕ) (number : Option ℕ) → width ≤ 64 → None ≡ fitting 64 number → None ≡ fitting width number
narrow_none width None low e = refl
narrow_none width (Some n) low e =
    elim (cases_Bool (ltb n (2 ^ 64))) [
      | inl fits ↦ absurd (let some : fitting 64 (Some n) ≡ Some n = cond-true _ _ _ fits in let bad : None ≡ Some n = e ∙ some in cc)
      | inr past ↦ (let wide : 2 ^ width ≤ 2 ^ 64 = pow-le-pow_right {n = 2} (omega arith) {i = width} {j = 64} low in
          let high : 2 ^ 64 ≤ n = ltb-false _ _ past in
          let high_enough : 2 ^ width ≤ n = omega arith in sym (cond-false _ _ _ (le-ltb _ _ high_enough)))
    ]

pub narrow_some : (width : ℕ) (number : Option ℕ) (n : ℕ) → Some n ≡ fitting 64 number → n < 2 ^ width → Some n ≡ fitting width number
narrow_some width None n e small = absurd (let bad : Some n ≡ None = e in cc)
narrow_some width (Some m) n e small =
    let same : m ≡ n = (cond_some _ _ _ (sym e)).1 in rw same (sym (cond-true _ _ _ (lt-ltb _ _ small)))

pub narrow_past : (width : ℕ) (number : Option ℕ) (n : ℕ) → Some n ≡ fitting 64 number → 2 ^ width ≤ n → None ≡ fitting width number
narrow_past width None n e past = refl
narrow_past width (Some m) n e past =
    let same : m ≡ n = (cond_some _ _ _ (sym e)).1 in rw same (sym (cond-false _ _ _ (le-ltb _ _ past)))
