-- Bytes taken for a cell, without a check that they spell one.
use Rattle.std.specs.Prelude.{ℕ, ◌+◌, ◌*◌, ◌==◌, List, ◌++◌, take, drop, get_or, if◌then◌else◌}
use Rattle.std.specs.Int.{w32, from_be_bytes, to_be_bytes}
use Rattle.hg_cells.specs.declared.cell.Cell.{Cell}
use Rattle.hg_cells.specs.declared.cell.Cell.TheVariants.{New, Exclusive, SharedRead, SharedModified}

-- the number that four bytes spell
abbrev pub number_at : List ℕ → ℕ → ℕ
number_at bytes at = from_be_bytes w32 (take 4 (drop at bytes))

-- three numbers, in four bytes each
abbrev pub text_of : ℕ × ℕ × ℕ → List ℕ
text_of numbers = to_be_bytes w32 numbers.0 ++ (to_be_bytes w32 numbers.1 ++ to_be_bytes w32 numbers.2)

-- the cell with these parts
abbrev pub cell_with : ℕ → ℕ → ℕ → Cell
cell_with state first second =
    if state == 1 then Exclusive first else
    if state == 2 then SharedRead first second else
    if state == 3 then SharedModified first second else
    New

-- the cell that twelve bytes spell, if they spell one
abbrev pub cell_in : List ℕ → Cell
cell_in bytes = cell_with (get_or bytes 0 0) (number_at bytes 4) (number_at bytes 8)

-- the bytes of a word's cell in a slot
abbrev pub cell_bytes : List ℕ → ℕ → List ℕ
cell_bytes bytes word = take 12 (drop (8 + 12 * word) bytes)
