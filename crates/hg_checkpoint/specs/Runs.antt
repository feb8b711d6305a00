-- Pages whose slots lie side by side.
use Rattle.std.specs.Prelude.{◌≡◌, ◌<◌, ◌≤◌, ◌+◌, ◌*◌, ℕ, List, length, take, slice_get, Some}
use Rattle.hg_cells.specs.declared.cell.Cell.{Cell}
use Rattle.hg_disk.specs.declared.disk.Disk as disk
use Rattle.hg_pages.specs.Files.{WasRead}
use Rattle.hg_pages.specs.Runs.{bytes_in_run}
use Rattle.hg_pages.specs.Slots.{AreKnown, IsSlot}
use Rattle.hg_pages.specs.declared.slot_file.SlotFile.{SlotFile}
use Rattle.hg_pages.specs.declared.slot_run.TheConstants.{MOST_RUN}
use Rattle.hg_root.specs.declared.parts.PageSlot.{PageSlot}

-- The slots lie side by side, in the order of the pages: each lies as far behind another as its page stands behind the
-- other's.
abbrev pub LieSideBySide : List PageSlot → Type 0
LieSideBySide pages =
    (i j : ℕ) (p q : PageSlot) → slice_get pages i ≡ Some p → slice_get pages j ≡ Some q → p.slot + j ≡ q.slot + i

-- The first n pages are the longest run: their slots lie side by side, and those of one page more do not, or there is no
-- room or no page for it.
pub record IsLongestRun (pages : List PageSlot) (n : ℕ) : Type 0 where
  pub some : 1 ≤ n
  pub within : n ≤ length pages
  pub most : n ≤ MOST_RUN
  pub run : LieSideBySide (take n pages)
  pub longest : n < length pages → n < MOST_RUN → ¬ LieSideBySide (take (n + 1) pages)

-- The slot at this place of the run is the page's, and its cells name only known segments and sets.
abbrev pub HasPageAt : ℕ → List (List ℕ) → (run : List ℕ) → (place : ℕ) → PageSlot → Type 0
HasPageAt segments sets run place p =
    (cells : List Cell) × IsSlot p.page cells (bytes_in_run run place) × AreKnown segments sets cells

-- The run has each page at its place.
abbrev pub HasEachPage : ℕ → List (List ℕ) → (run : List ℕ) → List PageSlot → Type 0
HasEachPage segments sets run pages =
    (place : ℕ) (p : PageSlot) → slice_get pages place ≡ Some p → HasPageAt segments sets run place p

module _ {D : Type 0} (g : disk.Ghosts D) where
  -- If all these pages lie side by side, one call was enough for every 21.
  abbrev pub WasReadByRuns : (old new : SlotFile D) → List PageSlot → Type 0
  WasReadByRuns old new pages = LieSideBySide pages → (n : ℕ) → length pages ≤ MOST_RUN * n → WasRead g n old new
