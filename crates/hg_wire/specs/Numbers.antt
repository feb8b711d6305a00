-- Definition: part of what `check` promises. Numbers of the trace text.
use Rattle.std.specs.Prelude.{◌≡◌, ℕ, ◌+◌, ◌*◌, ◌^◌, ◌≤◌, ◌&&◌, nat_eq, nat_le, List, [], ◌∷◌, ◌++◌, length, drop, codes, Option, Some, None, if◌then◌else◌}
use Rattle.std.specs.Char.{digit_value, is_digit}
use Rattle.std.specs.List.{list_all, starts_with}
use Rattle.std.specs.Str.Parse.{AllDigits, digits_value}

-- The value of the digits in a base: each digit counts the power of the base at its place.
abbrev pub value_of : ℕ → List ℕ → ℕ
value_of base [] = 0
value_of base (c ∷ cs) = digit_value c * base ^ length cs + value_of base cs

-- from 1 to `most` digits of the base
pub record IsNumeral (base most : ℕ) (digits : List ℕ) : Type 0 where
  pub some : 1 ≤ length digits
  pub few : length digits ≤ most
  pub each : AllDigits base digits

-- The bytes spell the number n: 1 to 20 decimal digits, or `0x` and 1 to 16 hexadecimal digits of either case.
pub data IsNumber (bytes : List ℕ) (n : ℕ) : Type 0 where
  Decimal : IsNumeral 10 20 bytes → n ≡ value_of 10 bytes → IsNumber bytes n
  Hexadecimal : (digits : List ℕ) → bytes ≡ codes "0x" ++ digits → IsNumeral 16 16 digits → n ≡ value_of 16 digits → IsNumber bytes n

-- the number that the digits write, where they are a numeral
abbrev pub numeral : ℕ → ℕ → List ℕ → Option ℕ
numeral base most digits =
    if nat_le 1 (length digits) && nat_le (length digits) most && list_all (λ c. is_digit c base) digits then Some (digits_value base digits) else None

-- The number that the bytes spell, if they spell one.
abbrev pub number_of : List ℕ → Option ℕ
number_of bytes = if starts_with nat_eq bytes (codes "0x") then numeral 16 16 (drop 2 bytes) else numeral 10 20 bytes
