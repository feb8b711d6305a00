-- A run of digits that is read from the left.
use Rattle.std.proofs.Common.{◌≡◌, ℕ, ◌+◌, ◌*◌, ◌^◌, ◌%◌, ◌<◌, ◌≤◌, List, [], ◌∷◌, ◌++◌, length, get_or, drop, ◌⊎◌, ⊎_elim, codes, refl, sym, ◌∙◌, ap, subst, arith}
use Rattle.std.proofs.Math.Nat.{pow-le-pow_right, mod-eq_of_lt}
use Rattle.std.proofs.lemmas.Int.Digits.{digits_push, digits_value_push, digits_value-lt}
use Rattle.std.proofs.lemmas.List.{append_assoc, drop_more, length-append, length-drop, length_push}
use Rattle.std.specs.Char.{digit_value}
use Rattle.std.specs.Str.Parse.{AllDigits, digits_value}
use Rattle.hg_wire.specs.Numbers.{Decimal, Hexadecimal}
use Rattle.hg_wire.specs.InFront.{HasRun, HasDigits, IsFourDigits, HasNumeral, HasNumber}
use Rattle.hg_wire.proofs.NumberLemmas.{digits_value_is}

pub run_starts : (base most : ℕ) (bytes : List ℕ) → HasRun base most bytes bytes 0
run_starts base most bytes = record { digits = []; each = tt; joined = refl; read = λ _. refl }

-- no sum wraps that is the value of few digits
unwrapped : (base most value factor digit : ℕ) (digits : List ℕ) → 0 < base → base ^ most ≤ 2 ^ 64 → AllDigits base digits → length digits ≤ most
    → digits_value base digits ≡ value * factor + digit → (value * factor % 2 ^ 64 + digit) % 2 ^ 64 ≡ digits_value base digits
unwrapped base most value factor digit digits some fits each few is =
    let below : digits_value base digits < base ^ length digits = digits_value-lt base digits each in
    let within : base ^ length digits ≤ base ^ most = pow-le-pow_right {n = base} some {i = length digits} {j = most} few in
    let product : value * factor % 2 ^ 64 ≡ value * factor = mod-eq_of_lt (omega arith) in
    rw product (mod-eq_of_lt (omega arith) ∙ sym is)

pub run_grows : (base most : ℕ) (bytes more : List ℕ) (first value digit : ℕ) → base ^ most ≤ 2 ^ 64 → digit_value first ≡ digit → digit < base → HasRun base most bytes (first ∷ more) value
    → HasRun base most bytes more ((value * base % 2 ^ 64 + digit) % 2 ^ 64)
run_grows base most bytes more first value digit fits is small h =
    let each : AllDigits base (h.digits ++ first ∷ []) = digits_push base h.digits first h.each (subst (λ d. d < base) (sym is) small) in
    record {
      digits = h.digits ++ first ∷ [];
      each = each;
      joined = h.joined ∙ sym (append_assoc h.digits (first ∷ []) more);
      read = λ room. (
          let read : value ≡ digits_value base h.digits = h.read (omega (arith, length_push h.digits first)) in
          let whole : digits_value base (h.digits ++ first ∷ []) ≡ value * base + digit =
          digits_value_push base h.digits first ∙ (ap (λ d. digits_value base h.digits * base + d) is ∙ ap (λ v. v * base + digit) (sym read)) in
          unwrapped base most value base digit (h.digits ++ first ∷ []) (omega arith) fits each room whole
          );
    }

-- the same at a place
pub run_on : (base most : ℕ) (start bytes : List ℕ) (i value digit : ℕ) → base ^ most ≤ 2 ^ 64 → i < length bytes → digit_value (get_or bytes i 0) ≡ digit → digit < base
    → HasRun base most start (drop i bytes) value → HasRun base most start (drop (i + 1) bytes) ((value * base % 2 ^ 64 + digit) % 2 ^ 64)
run_on base most start bytes i value digit fits within is small h =
    run_grows base most start (drop (i + 1) bytes) (get_or bytes i 0) value digit fits is small (subst (λ r. HasRun base most start r value) (drop_more bytes i 0 within) h)

-- four digits at once
pub run_grows_by_four : (bytes more : List ℕ) (a b c d value four : ℕ) → IsFourDigits a b c d four → HasRun 16 16 bytes (a ∷ b ∷ c ∷ d ∷ more) value
    → HasRun 16 16 bytes more ((value * 65536 % 2 ^ 64 + four) % 2 ^ 64)
run_grows_by_four bytes more a b c d value four f h =
    let one = h.digits ++ a ∷ [] in
    let two = one ++ b ∷ [] in
    let three = two ++ c ∷ [] in
    let all = three ++ d ∷ [] in
    let each : AllDigits 16 all =
    digits_push 16 three d (digits_push 16 two c (digits_push 16 one b (digits_push 16 h.digits a h.each f.each.0) f.each.1.0) f.each.1.1.0) f.each.1.1.1.0 in
    record {
      digits = all;
      each = each;
      joined = h.joined ∙ (sym (append_assoc h.digits (a ∷ []) (b ∷ c ∷ d ∷ more)) ∙ (sym (append_assoc one (b ∷ []) (c ∷ d ∷ more))
          ∙ (sym (append_assoc two (c ∷ []) (d ∷ more)) ∙ sym (append_assoc three (d ∷ []) more))));
      read = λ room. (
          let count : length all ≡ length h.digits + 4 = omega (arith, length_push three d, length_push two c, length_push one b, length_push h.digits a) in
          let read : value ≡ digits_value 16 h.digits = h.read (omega arith) in
          let whole : digits_value 16 all ≡ value * 65536 + four =
          omega (arith, digits_value_push 16 three d, digits_value_push 16 two c, digits_value_push 16 one b, digits_value_push 16 h.digits a, f.read) in
          unwrapped 16 16 value 65536 four all (omega arith) (omega arith) each room whole
          );
    }

drop_next : (bytes : List ℕ) (i k : ℕ) → i + k < length bytes → drop (i + k) bytes ≡ get_or bytes (i + k) 0 ∷ drop (i + (k + 1)) bytes
drop_next bytes i k within =
    let next : i + k + 1 ≡ i + (k + 1) = omega arith in
    drop_more bytes (i + k) 0 within ∙ ap (λ n. get_or bytes (i + k) 0 ∷ drop n bytes) next

pub run_on_by_four : (start bytes : List ℕ) (i value four : ℕ) → i + 4 ≤ length bytes
    → IsFourDigits (get_or bytes i 0) (get_or bytes (i + 1) 0) (get_or bytes (i + 2) 0) (get_or bytes (i + 3) 0) four → HasRun 16 16 start (drop i bytes) value
    → HasRun 16 16 start (drop (i + 4) bytes) ((value * 65536 % 2 ^ 64 + four) % 2 ^ 64)
run_on_by_four start bytes i value four room f h =
    let parts : drop i bytes ≡ get_or bytes i 0 ∷ get_or bytes (i + 1) 0 ∷ get_or bytes (i + 2) 0 ∷ get_or bytes (i + 3) 0 ∷ drop (i + 4) bytes =
    drop_more bytes i 0 (omega arith) ∙ ap (λ r. get_or bytes i 0 ∷ r)
    (drop_next bytes i 1 (omega arith) ∙ ap (λ r. get_or bytes (i + 1) 0 ∷ r)
    (drop_next bytes i 2 (omega arith) ∙ ap (λ r. get_or bytes (i + 2) 0 ∷ r) (drop_next bytes i 3 (omega arith)))) in
    run_grows_by_four start (drop (i + 4) bytes) _ _ _ _ value four f (subst (λ r. HasRun 16 16 start r value) parts h)

pub run_ends : (base most : ℕ) (bytes : List ℕ) (from end value : ℕ) → HasDigits base most bytes from end value → HasNumeral base most (drop from bytes) value (drop end bytes)
run_ends base most bytes from end value h =
    let run = h.run in
    let count : length (drop from bytes) ≡ length run.digits + length (drop end bytes) = ap length run.joined ∙ length-append run.digits (drop end bytes) in
    let is : length run.digits + from ≡ end = omega (arith, h.some, h.within, length-drop from bytes, length-drop end bytes) in
    let few : length run.digits ≤ most = omega (arith, h.few) in
    record {
      digits = run.digits;
      numeral = record { some = omega (arith, h.some); few = few; each = run.each };
      value = run.read few ∙ digits_value_is base run.digits;
      fits = h.fits;
      joined = run.joined;
    }

-- ---- digits

-- what the table has for a byte: a digit's value, or too much
abbrev pub IsHexadecimal : ℕ → ℕ → Type 0
IsHexadecimal byte value = (value ≤ 15 → digit_value byte ≡ value) × ((value ≤ 15) ⊎ (value ≡ 65536))

small : (byte value : ℕ) → IsHexadecimal byte value → value ≤ 65535 → value ≤ 15
small byte value h few = ⊎_elim (λ low. low) (λ none. absurd (omega (arith, none, few))) h.1

pub four_digits : (a b c d x y z w : ℕ) → IsHexadecimal a x → IsHexadecimal b y → IsHexadecimal c z → IsHexadecimal d w → ((x * 16 + y) * 16 + z) * 16 + w ≤ 65535
    → IsFourDigits a b c d (((x * 16 + y) * 16 + z) * 16 + w)
four_digits a b c d x y z w p q r s low =
    let first : x ≤ 15 = small a x p (omega (arith, low)) in
    let second : y ≤ 15 = small b y q (omega (arith, low)) in
    let third : z ≤ 15 = small c z r (omega (arith, low)) in
    let fourth : w ≤ 15 = small d w s (omega (arith, low)) in
    record {
      each = (below_sixteen a x (p.0 first) first, (below_sixteen b y (q.0 second) second, (below_sixteen c z (r.0 third) third, (below_sixteen d w (s.0 fourth) fourth, tt))));
      read = omega (arith, p.0 first, q.0 second, r.0 third, s.0 fourth);
    }
  where
    below_sixteen : (byte value : ℕ) → digit_value byte ≡ value → value ≤ 15 → digit_value byte < 16
    below_sixteen byte value is few = omega (arith, is, few)

-- ---- numbers

pub decimal_number : (bytes : List ℕ) (from end n : ℕ) → HasDigits 10 19 bytes from end n → HasNumber (drop from bytes) n (drop end bytes)
decimal_number bytes from end n digits =
    let h = run_ends 10 19 bytes from end n digits in
    record { text = h.digits; spelled = Decimal (record { some = h.numeral.some; few = omega (arith, h.numeral.few); each = h.numeral.each }) h.value; fits = h.fits; joined = h.joined }

pub hexadecimal_number : (bytes : List ℕ) (from end n : ℕ) → get_or bytes from 0 ≡ 48 → get_or bytes (from + 1) 0 ≡ 120 → HasDigits 16 16 bytes (from + 2) end n → HasNumber (drop from bytes) n (drop end bytes)
hexadecimal_number bytes from end n first second digits =
    let h = run_ends 16 16 bytes (from + 2) end n digits in
    let long : from + 2 < length bytes = omega (arith, digits.some, digits.within) in
    record {
      text = codes "0x" ++ h.digits;
      spelled = Hexadecimal h.digits refl h.numeral h.value;
      fits = h.fits;
      joined = drop_more bytes from 0 (omega arith) ∙ (ap (λ r. get_or bytes from 0 ∷ r) (drop_next bytes from 1 (omega arith))
          ∙ (ap (λ b. b ∷ get_or bytes (from + 1) 0 ∷ drop (from + 2) bytes) first ∙ (ap (λ b. 48 ∷ b ∷ drop (from + 2) bytes) second ∙ ap (λ more. 48 ∷ 120 ∷ more) h.joined)));
    }
