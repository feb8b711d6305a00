-- A list with unused places in it.
use Rattle.std.specs.Prelude.{◌+◌, ℕ, List, ◌++◌, take, drop}

-- What contracts see of a list with a gap: the list, and for how many entries it has memory.
pub record ShownBuffer : Type 0 where
  pub items : List (ℕ × ℕ)
  pub capacity : ℕ

-- the places before a gap, and those behind it
abbrev pub without_gap : (from width : ℕ) → List (ℕ × ℕ) → List (ℕ × ℕ)
without_gap from width places = take from places ++ drop (from + width) places
