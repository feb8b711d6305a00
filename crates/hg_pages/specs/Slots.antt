-- The bytes of a file of slots.
use Rattle.std.specs.Prelude.{◌≡◌, ◌<◌, ◌≤◌, ◌*◌, ◌^◌, ℕ, ◌==◌, List, ◌∷◌, ◌++◌, length, All, if◌then◌else◌}
use Rattle.std.specs.List.{flat_map, AllByRecursion}
use Rattle.std.specs.Int.{w32, w64, to_be_bytes}
use Rattle.hg_model.specs.declared.limits.TheConstants.{GREATEST_THREAD}
use Rattle.hg_sets.specs.Interning.{set_at}
use Rattle.hg_cells.specs.declared.cell.Cell.{Cell}
use Rattle.hg_cells.specs.declared.cell.Cell.TheVariants.{New, Exclusive, SharedRead, SharedModified}
use Rattle.hg_disk.specs.Laws.{Holds}
use Rattle.hg_pages.specs.declared.decoded.TheConstants.{MOST_PAGES}

-- a state, whether it was reported, two zeros, and two numbers in four bytes each
abbrev pub cell_of_parts : ℕ → ℕ → ℕ → ℕ → List ℕ
cell_of_parts state reported first second = state ∷ reported ∷ 0 ∷ 0 ∷ (to_be_bytes w32 first ++ to_be_bytes w32 second)

-- A cell as twelve bytes. A word that was modified while shared was reported exactly if no lock is left; the set without
-- locks is set 0.
abbrev pub cell_text : Cell → List ℕ
cell_text New = cell_of_parts 0 0 0 0
cell_text (Exclusive segment) = cell_of_parts 1 0 segment 0
cell_text (SharedRead threads locks) = cell_of_parts 2 0 threads locks
cell_text (SharedModified threads locks) = cell_of_parts 3 (if locks == 0 then 1 else 0) threads locks

-- its numbers fit four bytes
abbrev pub CellFits : Cell → Type 0
CellFits New = Unit {0}
CellFits (Exclusive segment) = segment < 2 ^ 32
CellFits (SharedRead threads locks) = (threads < 2 ^ 32) × (locks < 2 ^ 32)
CellFits (SharedModified threads locks) = (threads < 2 ^ 32) × (locks < 2 ^ 32)

-- a page as the bytes of its slot: its number, and its cells, that of the lowest word first
abbrev pub slot_text : ℕ → List Cell → List ℕ
slot_text page cells = to_be_bytes w64 page ++ flat_map cell_text cells

-- a page's number, and its cells
pub record IsPage (page : ℕ) (cells : List Cell) : Type 0 where
  pub number : page < MOST_PAGES
  pub words : length cells ≡ 256
  pub fit : AllByRecursion CellFits cells

-- The bytes are the slot of the page with these cells.
pub record IsSlot (page : ℕ) (cells : List Cell) (bytes : List ℕ) : Type 0 where
  pub page_is : IsPage page cells
  pub spelling : bytes ≡ slot_text page cells

-- The table has the set with this number, and the set can be the threads of a shared word: at least two numbers of
-- threads.
pub record IsThreadSet (sets : List (List ℕ)) (id : ℕ) : Type 0 where
  pub known : id < length sets
  pub several : 2 ≤ length (set_at sets id)
  pub threads : All (λ t. t ≤ GREATEST_THREAD) (set_at sets id)

-- A cell names only a known segment, below this number, and known sets, those of the table.
abbrev pub IsKnown : ℕ → List (List ℕ) → Cell → Type 0
IsKnown segments sets New = Unit {0}
IsKnown segments sets (Exclusive segment) = segment < segments
IsKnown segments sets (SharedRead threads locks) = IsThreadSet sets threads × (locks < length sets)
IsKnown segments sets (SharedModified threads locks) = IsThreadSet sets threads × (locks < length sets)

-- Each cell names only known segments and sets.
abbrev pub AreKnown : ℕ → List (List ℕ) → List Cell → Type 0
AreKnown segments sets cells = AllByRecursion (IsKnown segments sets) cells

-- The bytes are not a slot of the page with known segments and sets only.
abbrev pub IsNoKnownSlot : (page segments : ℕ) → List (List ℕ) → (bytes : List ℕ) → Type 0
IsNoKnownSlot page segments sets bytes = (cells : List Cell) → IsSlot page cells bytes → ¬ AreKnown segments sets cells

-- The slot of the file has these bytes.
abbrev pub HasBytes : ℕ → List ℕ → List ℕ → Type 0
HasBytes slot bytes file = (length bytes ≡ 3080) × Holds file (3080 * slot) bytes

-- The slot of the file has the page with these cells.
pub record HasSlot (slot page : ℕ) (cells : List Cell) (file : List ℕ) : Type 0 where
  pub page_is : IsPage page cells
  pub bytes : HasBytes slot (slot_text page cells) file

-- The slot does not lie within the file.
abbrev pub IsOutside : (slot : ℕ) → (file : List ℕ) → Type 0
IsOutside slot file = (bytes : List ℕ) → ¬ HasBytes slot bytes file

-- The slot of the file has the page with these cells, and they name only known segments and sets.
pub record HasPage (segments : ℕ) (sets : List (List ℕ)) (slot page : ℕ) (cells : List Cell) (file : List ℕ) : Type 0 where
  pub stands : HasSlot slot page cells file
  pub known : AreKnown segments sets cells

-- P holds for at most one page, with one list of cells.
abbrev pub HasOnePage : (ℕ → List Cell → Type 0) → Type 0
HasOnePage P = (page other : ℕ) (cells others : List Cell) → P page cells → P other others → (page ≡ other) × (cells ≡ others)
