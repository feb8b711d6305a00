-- Pages in frames, each in a place of its own.
use Rattle.std.specs.Prelude.{◌≡◌, ◌⊎◌, ◌+◌, ◌≤◌, ◌<◌, ◌==◌, ◌++◌, ℕ, nat_eq, true, false, List, [], ◌∷◌, Option, Some, None, length, get_or, set, slice_get, option_map, if◌then◌else◌}
use Rattle.std.specs.List.{AllByRecursion}
use Rattle.std.specs.Map.{keys_of, lookup}
use Rattle.hg_cells.specs.Pages.{HaveCell, filled}
use Rattle.hg_cells.specs.declared.cell.Cell.{Cell}
use Rattle.hg_cache.specs.declared.frame.Frame.{Frame}
use Rattle.hg_cache.specs.declared.frame.Placed.{Placed}
use Rattle.hg_cache.specs.Entries.{IsFree}
use Rattle.hg_cache.specs.Rings.{AreApart}

-- the frame of a page, if the page is there
abbrev pub frame_in : List (ℕ × Frame) → ℕ → Option Frame
frame_in frames page = lookup (nat_eq page) frames

-- the page is the one used last
abbrev pub IsFirst : List (ℕ × Frame) → ℕ → Type 0
IsFirst frames page = (rest : List ℕ) × (keys_of frames ≡ page ∷ rest)

-- the page used just before this one; none if there is none, or this one is not there
abbrev pub page_behind : ℕ → List (ℕ × Frame) → Option ℕ
page_behind page [] = None
page_behind page (e ∷ frames) = if page == e.0 then option_map (λ e. e.0) (slice_get frames 0) else page_behind page frames

-- the page is there, and its words from one place up to another have the cell
abbrev pub HasCell : List (ℕ × Frame) → ℕ → ℕ → ℕ → Cell → Type 0
HasCell frames page from to cell = (f : Frame) × (frame_in frames page ≡ Some f) × HaveCell f.cells from to cell

-- The frame of the page has its cells but is clean now; each other page keeps its frame.
abbrev pub CleansFrame : (page : ℕ) → (old new : List (ℕ × Frame)) → Type 0
CleansFrame page old new =
    (f : Frame) → frame_in old page ≡ Some f
    → (q : ℕ) → frame_in new q ≡ (if page == q then Some (record f { is_dirty = false }) else frame_in old q)

-- The frame of the page has the cell from `from` up to `to`, and is dirty; each other page keeps its frame.
abbrev pub FillsFrame : (page from to : ℕ) → Cell → (old new : List (ℕ × Frame)) → Type 0
FillsFrame page from to cell old new =
    (f : Frame) → frame_in old page ≡ Some f
    → (q : ℕ) → frame_in new q ≡ (if page == q then Some (record { cells = filled f.cells from to cell; is_dirty = true }) else frame_in old q)

-- the content of a place beyond the last one
abbrev pub nothing : Placed
nothing = record { page = 0; frame = record { cells = []; is_dirty = false } }

-- the frame in a place
abbrev pub frame_at : List Placed → ℕ → Frame
frame_at placed place = (get_or placed place nothing).frame

-- each page with the frame in its place
abbrev pub framed : List Placed → List (ℕ × ℕ) → List (ℕ × Frame)
framed placed [] = []
framed placed (e ∷ es) = (e.0, frame_at placed e.1) ∷ framed placed es

-- the place has the page
abbrev pub HasPage : List Placed → ℕ × ℕ → Type 0
HasPage placed e = (e.1 < length placed) × ((get_or placed e.1 nothing).page ≡ e.0)

-- Each page is in its place, so no two pages have the same place.
abbrev pub ArePlaced : List Placed → List (ℕ × ℕ) → Type 0
ArePlaced placed es = AllByRecursion (λ e. HasPage placed e) es

-- The place is one of so many, and no page has it.
abbrev pub IsFreePlace : (places : ℕ) → List (ℕ × ℕ) → (place : ℕ) → Type 0
IsFreePlace places es place = (place < places) × IsFree place es

-- The places are shared out: each page is in its own, and each other one was left, and is listed once. There are at most
-- so many.
pub record AreSharedOut (placed : List Placed) (left : List ℕ) (es : List (ℕ × ℕ)) (most : ℕ) : Type 0 where
  pub pages : ArePlaced placed es
  pub free : AllByRecursion (λ p. IsFreePlace (length placed) es p) left
  pub apart : AreApart left
  pub all : length placed ≡ length es + length left
  pub few : length placed ≤ most

-- There is memory for so many pages, and for so many places that were left.
abbrev pub HasRoom : (most placed left : ℕ) → Type 0
HasRoom most placed left = (most ≤ placed) × (most ≤ left)

-- The page came into the place that was left last, or into a new one behind all others if none was left.
abbrev pub TakesPlace : (taken : Placed) (place : ℕ) → (placed : List Placed) (left : List ℕ) → (new : List Placed) (rest : List ℕ) → Type 0
TakesPlace taken place placed left new rest =
    ((left ≡ rest ++ place ∷ []) × (new ≡ set placed place taken))
    ⊎ ((left ≡ []) × (rest ≡ []) × (place ≡ length placed) × (new ≡ placed ++ taken ∷ []))

-- another frame in the place, of the same page
abbrev pub with_frame : List Placed → ℕ → Frame → List Placed
with_frame placed place frame = set placed place (record { page = (get_or placed place nothing).page; frame = frame })

-- the frames with this cell at the words from `from` up to `to` of the page in the place
abbrev pub with_cell : List Placed → ℕ → (from to : ℕ) → Cell → List Placed
with_cell placed place from to cell = with_frame placed place (record { cells = filled (frame_at placed place).cells from to cell; is_dirty = true })

-- the frames with the page in the place clean
abbrev pub with_clean : List Placed → ℕ → List Placed
with_clean placed place = with_frame placed place (record (frame_at placed place) { is_dirty = false })
