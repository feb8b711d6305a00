-- The cell of a word, as a file of slots has it.
use Rattle.std.specs.Prelude.{◌≡◌, ℕ, ◌*◌, List, get_or, take, drop}
use Rattle.hg_cells.specs.declared.cell.Cell.{Cell}
use Rattle.hg_cells.specs.declared.cell.Cell.TheVariants.{New}
use Rattle.hg_pages.specs.Reading.{cell_bytes, cell_in}
use Rattle.hg_pages.specs.Slots.{HasSlot}

-- The cell that the bytes of a slot give for a word, whatever these bytes are. If the slot has a page, it is the page's
-- cell.
abbrev pub cell_in_slot : List ℕ → ℕ → ℕ → Cell
cell_in_slot file slot word = cell_in (cell_bytes (take 3080 (drop (3080 * slot) file)) word)

-- If the slot has the page, the cell that its bytes give for the word is the page's.
abbrev pub StoresCell : (slot page word : ℕ) → List Cell → (file : List ℕ) → Type 0
StoresCell slot page word cells file = HasSlot slot page cells file → cell_in_slot file slot word ≡ get_or cells word New
