-- The words of the pages that a root names.
use Rattle.std.specs.Prelude.{◌≡◌, ◌≢◌, ◌+◌, ◌*◌, ◌/◌, ◌%◌, ◌<◌, ℕ, List, All, get_or, length, if◌then◌else◌}
use Rattle.hg_cells.specs.declared.cell.Cell.{Cell}
use Rattle.hg_cells.specs.declared.cell.Cell.TheVariants.{New}
use Rattle.hg_cells.specs.declared.paged.PagedWords.{PagedWords}
use Rattle.hg_cells.specs.Paged.{AreWithin, cell_in}
use Rattle.hg_pages.specs.Slots.{HasPage}
use Rattle.hg_root.specs.declared.parts.PageSlot.{PageSlot}
use Rattle.hg_root.specs.Checkpoints.{Checkpoint, HasPages}
use Rattle.hg_root.specs.Parts.{Parts}
use Rattle.hg_contents.specs.Images.{cell_of, has_slot}

-- The words of the page have these cells, and other words what they had.
pub record PutsPage (page : ℕ) (cells : List Cell) (old new : PagedWords) : Type 0 where
  pub inside : (i : ℕ) → i < 256 → cell_in new (256 * page + i) ≡ get_or cells i New
  pub outside : (w : ℕ) → w / 256 ≢ page → cell_in new w ≡ cell_in old w

-- If each cell named only segments below this number and sets of these, it still does.
abbrev pub StaysWithin : ℕ → List (List ℕ) → PagedWords → PagedWords → Type 0
StaysWithin segments sets old new = AreWithin old segments (length sets) → AreWithin new segments (length sets)

-- The words of the page have the cells that its slot has, and other words what they had.
abbrev pub TakesPage : ℕ → List (List ℕ) → (slots : List ℕ) → PageSlot → PagedWords → PagedWords → Type 0
TakesPage segments sets slots named old new =
    (cells : List Cell) × HasPage segments sets named.slot named.page cells slots × PutsPage named.page cells old new

-- Each of the pages stands in its slot, with these cells.
abbrev pub HaveCells : ℕ → List (List ℕ) → (slots : List ℕ) → List PageSlot → (ℕ → List Cell) → Type 0
HaveCells segments sets slots pages cells_of =
    All (λ p. HasPage segments sets p.slot p.page (cells_of p.page) slots) pages

-- The words of the pages have these cells, and other words what they had.
abbrev pub PutsPages : List PageSlot → (ℕ → List Cell) → PagedWords → PagedWords → Type 0
PutsPages pages cells_of old new =
    (w : ℕ)
    → cell_in new w ≡ (if has_slot pages (w / 256) then get_or (cells_of (w / 256)) (w % 256) New else cell_in old w)

-- The words of the pages have the cells that their slots have, and other words what they had.
abbrev pub TakesPages : ℕ → List (List ℕ) → (slots : List ℕ) → List PageSlot → PagedWords → PagedWords → Type 0
TakesPages segments sets slots pages old new =
    (cells_of : ℕ → List Cell) → HaveCells segments sets slots pages cells_of → PutsPages pages cells_of old new

-- The words are those of each checkpoint with these parts whose pages the slots have.
abbrev pub HasWordsOf : Parts → (slots : List ℕ) → PagedWords → Type 0
HasWordsOf root slots words =
    (c : Checkpoint) → c.root ≡ root → HasPages slots c → (w : ℕ) → cell_in words w ≡ cell_of c w
