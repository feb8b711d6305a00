-- The row of a table of values. (No promise to a reader rests on this file.)
use Rattle.std.specs.Prelude.{ℕ, ◌+◌, List, [], ◌∷◌, Option, None, Some, slice_index_or}

-- the values of a row, with the numbers of their places from n on
abbrev pub entries_of : {T : Type 0} → ℕ → List (Option T) → List (ℕ × T)
entries_of n [] = []
entries_of n (None ∷ row) = entries_of (n + 1) row
entries_of n (Some x ∷ row) = (n, x) ∷ entries_of (n + 1) row

-- the value at a place of a row
abbrev pub place_in : {T : Type 0} → List (Option T) → ℕ → Option T
place_in row k = slice_index_or row k None

-- the first of two values
abbrev pub or_else : {T : Type 0} → Option T → Option T → Option T
or_else None other = other
or_else (Some x) other = Some x
