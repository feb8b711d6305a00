-- The two maps that a pool stands for.
use Rattle.std.specs.Prelude.{◌≡◌, ◌/◌, ◌%◌, ◌+◌, ◌*◌, ◌<◌, ℕ, nat_eq, Bool, List, get_or, Option, Some, None}
use Rattle.std.specs.Map.{lookup}
use Rattle.hg_disk.specs.declared.disk.Disk as disk
use Rattle.hg_disk.specs.Moments.{Leaves}
use Rattle.hg_cells.specs.declared.cell.Cell.{Cell}
use Rattle.hg_cells.specs.declared.cell.Cell.TheVariants.{New}
use Rattle.hg_pages.specs.Files as files
use Rattle.hg_pages.specs.Slots.{HasSlot}
use Rattle.hg_pages.specs.Stored.{cell_in_slot}
use Rattle.hg_pages.specs.Tables.{slot_in}
pub use Rattle.hg_cache.specs.Frames.{frame_in}
use Rattle.hg_cache.specs.declared.frame.Frame.{Frame}
use Rattle.hg_pool.specs.Shown.{ShownPool}

-- the frozen cells of a page, if they were copied
abbrev pub copy_in : List (ℕ × List Cell) → ℕ → Option (List Cell)
copy_in copies page = lookup (nat_eq page) copies

-- a word of a page in its slot, or a new one without a slot
abbrev pub in_slot : List ℕ → Option ℕ → ℕ → Cell
in_slot file None word = New
in_slot file (Some slot) word = cell_in_slot file slot word

-- a word of a page in its frame, or else in its slot
abbrev pub in_frame_or : Option Frame → Cell → ℕ → Cell
in_frame_or (Some frame) stored word = get_or frame.cells word New
in_frame_or None stored word = stored

-- a word of a waiting page: from its copy, or without a copy as it is
abbrev pub in_copy_or : Option (List Cell) → Cell → ℕ → Cell
in_copy_or (Some cells) present word = get_or cells word New
in_copy_or None present word = present

-- a word of a page of the frozen map, by whether the page waits
abbrev pub frozen_by : Option ℕ → Option (List Cell) → Cell → Cell → ℕ → Cell
frozen_by None copy written present word = written
frozen_by (Some slot) copy written present word = in_copy_or copy present word

abbrev pub disk_of : {D : Type 0} → ShownPool D → D
disk_of p = files.disk_of p.file

-- whether a write or a sync failed
abbrev pub is_broken : {D : Type 0} → ShownPool D → Bool
is_broken p = files.is_broken p.file

-- a word of a page of the live map, over a file with these bytes
abbrev pub live_at : {D : Type 0} → List ℕ → ShownPool D → ℕ → ℕ → Cell
live_at file p page word = in_frame_or (frame_in p.frames page) (in_slot file (slot_in p.live page) word) word

-- and of the frozen map
abbrev pub frozen_at : {D : Type 0} → List ℕ → ShownPool D → ℕ → ℕ → Cell
frozen_at file p page word = frozen_by (slot_in p.waiting page) (copy_in p.copies page) (in_slot file (slot_in p.frozen page) word) (live_at file p page word) word

module _ {D : Type 0} (g : disk.Ghosts D) where
  -- what is known of the file
  abbrev pub bytes_of : ShownPool D → List ℕ
  bytes_of p = files.known g p.file

  -- The live map.
  abbrev pub live : ShownPool D → ℕ → Cell
  live p w = live_at (bytes_of p) p (w / 256) (w % 256)

  -- The frozen map: the live one at the last freeze.
  abbrev pub frozen : ShownPool D → ℕ → Cell
  frozen p w = frozen_at (bytes_of p) p (w / 256) (w % 256)

-- Read by the table, the image gives these cells: a named slot has the page, and a page without one is new.
pub record GivesCells (table : List (ℕ × ℕ)) (cells_of : ℕ → Cell) (image : List ℕ) : Type 0 where
  pub named : (page slot : ℕ) → slot_in table page ≡ Some slot → (cells : List Cell) × HasSlot slot page cells image × ((i : ℕ) → i < 256 → cells_of (256 * page + i) ≡ get_or cells i New)
  pub unnamed : (page i : ℕ) → i < 256 → slot_in table page ≡ None → cells_of (256 * page + i) ≡ New

-- Each image of the slots, read by the frozen table, gives the frozen map.
abbrev pub IsSealed : {D : Type 0} → disk.Ghosts D → ShownPool D → Type 0
IsSealed g p = Leaves (GivesCells p.frozen (frozen g p)) (g.state (disk_of p))
