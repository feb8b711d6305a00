-- A cell as three numbers of four bytes each: how a page is written and read. No promise to a caller rests on this.
use Rattle.std.specs.Prelude.{◌≡◌, ◌⊎◌, ◌<◌, ◌≤◌, ◌+◌, ◌*◌, ◌==◌, ℕ, nat_le, List, take, drop, if◌then◌else◌}
use Rattle.std.specs.List.{flat_map, AllByRecursion}
use Rattle.hg_cells.specs.declared.cell.Cell.{Cell}
use Rattle.hg_cells.specs.declared.cell.Cell.TheVariants.{New, Exclusive, SharedRead, SharedModified}
use Rattle.hg_cells.specs.Cells.{IsWithin}
use Rattle.hg_pages.specs.Reading.{cell_bytes, number_at, text_of}
use Rattle.hg_pages.specs.Slots.{CellFits, IsSlot, IsThreadSet, cell_text}

-- the state of a cell, as the first number has it
abbrev pub kind_in : Cell → ℕ
kind_in New = 0
kind_in (Exclusive segment) = 16777216
kind_in (SharedRead threads locks) = 33554432
kind_in (SharedModified threads locks) = 50331648

-- what is added to the first number if no lock is left
abbrev pub mark_in : Cell → ℕ
mark_in New = 0
mark_in (Exclusive segment) = 0
mark_in (SharedRead threads locks) = 0
mark_in (SharedModified threads locks) = 65536

-- the second number: the owner, or the set of threads
abbrev pub first_in : Cell → ℕ
first_in New = 0
first_in (Exclusive segment) = segment
first_in (SharedRead threads locks) = threads
first_in (SharedModified threads locks) = threads

-- the third number: the set of locks
abbrev pub second_in : Cell → ℕ
second_in New = 0
second_in (Exclusive segment) = 0
second_in (SharedRead threads locks) = locks
second_in (SharedModified threads locks) = locks

-- the three numbers of a cell
abbrev pub numbers_by : Cell → ℕ × ℕ × ℕ
numbers_by cell = (kind_in cell + (if second_in cell == 0 then mark_in cell else 0), first_in cell, second_in cell)

-- The three numbers are those of a new word,
abbrev pub SpellNew : (head first second : ℕ) → Type 0
SpellNew head first second = (head ≡ 0) × (first ≡ 0) × (second ≡ 0)

-- or of a word with an owner below this number,
abbrev pub SpellOwned : (segments head first second : ℕ) → Type 0
SpellOwned segments head first second = (head ≡ 16777216) × (first < segments) × (second ≡ 0)

-- or of a shared word with sets below this number.
abbrev pub SpellShared : (sets head first second : ℕ) → Type 0
SpellShared sets head first second =
    ((head ≡ 33554432) ⊎ (head ≡ 50331648 + (if second == 0 then 65536 else 0))) × (first < sets) × (second < sets)

-- the cell with three numbers, if they are those of one
abbrev pub cell_by : ℕ × ℕ × ℕ → Cell
cell_by numbers =
    if nat_le 33554432 numbers.0 then (if numbers.0 == 33554432 then SharedRead numbers.1 numbers.2 else SharedModified numbers.1 numbers.2) else
    if numbers.0 == 0 then New else
    Exclusive numbers.1

-- The three numbers spell a cell that names only segments and sets below these numbers,
abbrev pub SpellsWithin : (segments sets : ℕ) → ℕ × ℕ × ℕ → Type 0
SpellsWithin segments sets numbers = (text_of numbers ≡ cell_text (cell_by numbers)) × CellFits (cell_by numbers) × IsWithin segments sets (cell_by numbers)

-- or none.
abbrev pub SpellsNoneWithin : (segments sets : ℕ) → ℕ × ℕ × ℕ → Type 0
SpellsNoneWithin segments sets numbers = (cell : Cell) → CellFits cell → text_of numbers ≡ cell_text cell → ¬ IsWithin segments sets cell

-- The bytes are those of a shared cell, with these threads.
abbrev pub IsSharedBy : ℕ → List ℕ → Type 0
IsSharedBy threads bytes = (33554432 ≤ number_at bytes 0) × (number_at bytes 4 ≡ threads)

-- The threads that these bytes spell, if they are those of a shared cell, are a set that can be shared.
abbrev pub HasThreads : List (List ℕ) → List ℕ → Type 0
HasThreads sets bytes = (threads : ℕ) → IsSharedBy threads bytes → IsThreadSet sets threads

-- The threads of a shared cell are a set that can be shared.
abbrev pub HasThreadSet : List (List ℕ) → Cell → Type 0
HasThreadSet sets New = Unit {0}
HasThreadSet sets (Exclusive segment) = Unit {0}
HasThreadSet sets (SharedRead threads locks) = IsThreadSet sets threads
HasThreadSet sets (SharedModified threads locks) = IsThreadSet sets threads

-- The first cells of a slot are these, and name only segments and sets below these numbers.
pub record AreRead (segments sets count : ℕ) (bytes : List ℕ) (cells : List Cell) : Type 0 where
  pub spelled : take (12 * count) (drop 8 bytes) ≡ flat_map cell_text (take count cells)
  pub fit : AllByRecursion CellFits (take count cells)
  pub within : AllByRecursion (IsWithin segments sets) (take count cells)

-- The bytes are the slot of no page whose cells name only segments and sets below these numbers.
abbrev pub AreOfNoneWithin : (segments sets : ℕ) → List ℕ → Type 0
AreOfNoneWithin segments sets bytes = (page : ℕ) (cells : List Cell) → IsSlot page cells bytes → ¬ AllByRecursion (IsWithin segments sets) cells

-- Each shared cell of a slot, of the first ones, has threads that can be shared.
abbrev pub HaveThreadSets : List (List ℕ) → (count : ℕ) → List ℕ → Type 0
HaveThreadSets sets count bytes = (word : ℕ) → word < count → HasThreads sets (cell_bytes bytes word)

-- No cell of a slot, of the first ones, is shared.
abbrev pub HasNoShared : (count : ℕ) → List ℕ → Type 0
HasNoShared count bytes = (word : ℕ) → word < count → 33554432 ≤ number_at (cell_bytes bytes word) 0 → ⊥

-- A shared cell of a slot has threads that can't be shared.
abbrev pub LacksThreadSet : List (List ℕ) → List ℕ → Type 0
LacksThreadSet sets bytes = (word : ℕ) × (word < 256) × (¬ HasThreads sets (cell_bytes bytes word))
