-- Numbers between texts.
use Rattle.std.specs.Prelude.{◌≡◌, ℕ, ◌++◌, List, String, decimal, string_bytes}

-- The text has these bytes more at its end.
abbrev pub Gains : {Z : Type 0} → (old new : String Z) → List ℕ → Type 0
Gains old new bytes = string_bytes new ≡ string_bytes old ++ bytes

-- a number between two texts
abbrev pub number_text : (before : List ℕ) (n : ℕ) (after : List ℕ) → List ℕ
number_text before n after = before ++ decimal n ++ after

-- two numbers, each behind a text
abbrev pub numbers_text : (before : List ℕ) (first : ℕ) (between : List ℕ) (second : ℕ) → List ℕ
numbers_text before first between second = before ++ decimal first ++ between ++ decimal second
