-- For proofs alone: digits, numbers and events in front of bytes that go on.
use Rattle.std.specs.Prelude.{◌≡◌, ◌⊎◌, ℕ, ◌+◌, ◌*◌, ◌^◌, ◌<◌, ◌≤◌, List, [], ◌∷◌, ◌++◌, length, drop}
use Rattle.std.specs.Char.{digit_value}
use Rattle.std.specs.List.{flat_map}
use Rattle.std.specs.Str.Parse.{AllDigits, digits_value}
use Rattle.hg_model.specs.declared.event.Event.{Event}
use Rattle.hg_wire.specs.Numbers.{IsNumber, IsNumeral, value_of}
use Rattle.hg_wire.specs.Lines.{AreOperands, IsLine}
use Rattle.hg_wire.specs.declared.verb.Verb.{Verb}
use Rattle.hg_wire.specs.Verbs.{row_of}

-- Digits stand before the rest, and the value is theirs unless they are too many.
pub record HasRun (base most : ℕ) (bytes rest : List ℕ) (value : ℕ) : Type 0 where
  pub digits : List ℕ
  pub each : AllDigits base digits
  pub joined : bytes ≡ digits ++ rest
  pub read : length digits ≤ most → value ≡ digits_value base digits

-- From one place to another stand digits, at most `most` of them. Their value is `value`, which fits 64 bits.
pub record HasDigits (base most : ℕ) (bytes : List ℕ) (from end value : ℕ) : Type 0 where
  pub some : from < end
  pub few : end ≤ from + most
  pub within : end ≤ length bytes
  pub fits : value < 2 ^ 64
  pub run : HasRun base most (drop from bytes) (drop end bytes) value

-- The four bytes are hexadecimal digits, which write the value.
pub record IsFourDigits (a b c d value : ℕ) : Type 0 where
  pub each : AllDigits 16 (a ∷ b ∷ c ∷ d ∷ [])
  pub read : value ≡ digit_value a * 4096 + digit_value b * 256 + digit_value c * 16 + digit_value d

-- The bytes are a numeral of the number n of 64 bits, and then the rest.
pub record HasNumeral (base most : ℕ) (bytes : List ℕ) (n : ℕ) (rest : List ℕ) : Type 0 where
  pub digits : List ℕ
  pub numeral : IsNumeral base most digits
  pub value : n ≡ value_of base digits
  pub fits : n < 2 ^ 64
  pub joined : bytes ≡ digits ++ rest

-- The bytes spell the number n of 64 bits, and then come the rest.
pub record HasNumber (bytes : List ℕ) (n : ℕ) (rest : List ℕ) : Type 0 where
  pub text : List ℕ
  pub spelled : IsNumber text n
  pub fits : n < 2 ^ 64
  pub joined : bytes ≡ text ++ rest

-- The bytes are a space and a token for each value, and then the rest.
pub record HasOperands (widths bytes values rest : List ℕ) : Type 0 where
  pub tokens : List (List ℕ)
  pub operands : AreOperands widths tokens values
  pub joined : bytes ≡ flat_map (λ token. 32 ∷ token) tokens ++ rest

-- The bytes spell the event, and then come the rest.
pub record HasEvent (bytes : List ℕ) (event : Event) (rest : List ℕ) : Type 0 where
  pub text : List ℕ
  pub spelled : IsLine text event
  pub joined : bytes ≡ text ++ rest

-- The bytes are a line feed, perhaps with one carriage return before it, and then the rest.
abbrev pub EndsLineBefore : List ℕ → List ℕ → Type 0
EndsLineBefore bytes rest = (bytes ≡ 10 ∷ rest) ⊎ (bytes ≡ 13 ∷ 10 ∷ rest)

-- The first `used` bytes are a line that spells the event, with its line feed.
pub record HasEventLine (bytes : List ℕ) (event : Event) (used : ℕ) : Type 0 where
  pub text : List ℕ
  pub spelled : IsLine text event
  pub middle : List ℕ
  pub rest : List ℕ
  pub joined : bytes ≡ text ++ middle
  pub ends : EndsLineBefore middle rest
  pub count : used + length rest ≡ length bytes

-- `more` is `number` with the digits from `at` up to `end` appended, whichever digits `number` has before.
abbrev pub NumberGoesOn : ℕ → ℕ → List ℕ → ℕ → ℕ → ℕ → ℕ → Type 0
NumberGoesOn base most bytes at number end more =
    (start : List ℕ) → HasRun base most start (drop at bytes) number → HasRun base most start (drop end bytes) more

-- From one place to another there is an operand of so many bits.
abbrev pub IsOperand : ℕ → List ℕ → ℕ → ℕ → ℕ → Type 0
IsOperand width bytes from value end = HasOperands (width ∷ []) (drop from bytes) (value ∷ []) (drop end bytes)

-- The bytes begin with the verb, which ends at this place.
abbrev pub BeginsWith : List ℕ → Verb → ℕ → Type 0
BeginsWith bytes verb end = bytes ≡ (row_of verb).text ++ drop end bytes
