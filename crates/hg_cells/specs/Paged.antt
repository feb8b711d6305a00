-- The cells that a map of pages in memory stands for.
use Rattle.std.specs.Prelude.{◌≡◌, ℕ, ◌+◌, ◌≤◌, ◌/◌, ◌%◌, ◌==◌, ◌&&◌, true, nat_eq, nat_le, nat_lt, if◌then◌else◌, List, Option, Some, None, is_some, option_map, slice_get, slice_index_or}
use Rattle.indexmap.specs.IndexMap.{IndexMap, get}
use Rattle.hg_cells.specs.declared.cell.Cell.{Cell}
use Rattle.hg_cells.specs.declared.cell.Cell.TheVariants.{New}
use Rattle.hg_cells.specs.Cells.{IsWithin}
use Rattle.hg_cells.specs.Pages.{HaveCell}
use Rattle.hg_cells.specs.declared.paged.PagedWords.{PagedWords}

-- a word's cell in its page, where there is one
abbrev pub cell_at : Option (List Cell) → ℕ → Cell
cell_at None place = New
cell_at (Some cells) place = slice_index_or cells place New

-- the page of a number
abbrev pub page_of : PagedWords → ℕ → Option (List Cell)
page_of words number = option_map (λ page. page.value) (get nat_eq words.pages number)

-- the page of the number is present, and has these cells
abbrev pub IsPageOf : PagedWords → ℕ → List Cell → Type 0
IsPageOf words number cells = page_of words number ≡ Some cells

-- a word is new where its page is absent
abbrev pub cell_in : PagedWords → ℕ → Cell
cell_in words w = cell_at (page_of words (w / 256)) (w % 256)

-- each cell names only segments below the first number and sets below the second
abbrev pub AreWithin : PagedWords → ℕ → ℕ → Type 0
AreWithin words segments sets = (w : ℕ) → IsWithin segments sets (cell_in words w)

-- the word's page is present
abbrev pub HasPage : PagedWords → ℕ → Type 0
HasPage words w = is_some (page_of words (w / 256)) ≡ true

-- the words are in one page, which is present
abbrev pub AreInPage : PagedWords → ℕ → ℕ → Type 0
AreInPage words first count = HasPage words first × (first % 256 + count ≤ 256)

-- the page stands at this place of the map
abbrev pub StandsIn : {P S : Type 0} → IndexMap ℕ P S → ℕ → ℕ → Type 0
StandsIn {P} pages number place = (page : P) × (slice_get pages.entries place ≡ Some (number, page)) × (get nat_eq pages number ≡ Some page)

-- The words of a page from one place up to another have the cell, and other words what they had.
abbrev pub FillsWords : ℕ → ℕ → ℕ → Cell → PagedWords → PagedWords → Type 0
FillsWords page from to cell old new = (w : ℕ) → cell_in new w ≡ (if (w / 256 == page) && (nat_le from (w % 256) && nat_lt (w % 256) to) then cell else cell_in old w)

-- a page is present, and its words from one place up to another have the cell
abbrev pub PageHasCell : PagedWords → ℕ → ℕ → ℕ → Cell → Type 0
PageHasCell words number from to cell = (cells : List Cell) × (page_of words number ≡ Some cells) × HaveCell cells from to cell
