-- What each call of a pool leaves as it was.
use Rattle.std.specs.Prelude.{◌≡◌, ◌⊎◌, ◌≤◌, ◌<◌, ℕ, false, List, [], length, Some, IsTrue, get_or}
use Rattle.hg_disk.specs.declared.disk.Disk as disk
use Rattle.hg_disk.specs.Moments.{GoesOn, Leaves, LeavesOnly}
use Rattle.hg_cells.specs.declared.cell.Cell.{Cell}
use Rattle.hg_cells.specs.declared.cell.Cell.TheVariants.{New}
use Rattle.hg_cells.specs.Cells.{IsWithin}
use Rattle.hg_pages.specs.Slots.{HasBytes, HasSlot}
use Rattle.hg_pages.specs.Tables.{IsNamed, slot_in}
use Rattle.hg_cache.specs.declared.frame.Frame.{Frame}
use Rattle.hg_pool.specs.Maps.{GivesCells, bytes_of, disk_of, frame_in, frozen, in_slot, is_broken, live}
use Rattle.hg_pool.specs.Shown.{HasSameLimits, ShownPool}

-- each page keeps its slot
abbrev pub Extends : List (ℕ × ℕ) → List (ℕ × ℕ) → Type 0
Extends old new = (page slot : ℕ) → slot_in old page ≡ Some slot → slot_in new page ≡ Some slot

-- no cell was changed
abbrev pub SameMap : (ℕ → Cell) → (ℕ → Cell) → Type 0
SameMap old new = (w : ℕ) → new w ≡ old w

-- the slot has the page with some cells
abbrev pub HasSome : ℕ → ℕ → List ℕ → Type 0
HasSome slot page file = (cells : List Cell) × HasSlot slot page cells file

module _ {D : Type 0} (g : disk.Ghosts D) where
  -- Each slot that is named for the page has it, and a clean frame has the cells of the slot.
  pub record IsPageWhole (p : ShownPool D) (page : ℕ) : Type 0 where
    pub live_page : (slot : ℕ) → slot_in p.live page ≡ Some slot → HasSome slot page (bytes_of g p)
    pub frozen_page : (slot : ℕ) → slot_in p.frozen page ≡ Some slot → HasSome slot page (bytes_of g p)
    pub clean : (f : Frame) → frame_in p.frames page ≡ Some f → f.is_dirty ≡ false → (i : ℕ) → i < 256 → get_or f.cells i New ≡ in_slot (bytes_of g p) (slot_in p.live page) i

  -- The maps have what was written: the disk is honest, and each page is whole.
  pub record IsWhole (p : ShownPool D) : Type 0 where
    pub honest : IsTrue g.is_honest
    pub pages : (page : ℕ) → IsPageWhole p page

  -- The maps have what was written, and the live cells name only segments and sets below these numbers.
  pub record IsFaithful (p : ShownPool D) (segments sets : ℕ) : Type 0 where
    pub whole : IsWhole p
    pub within : (w : ℕ) → IsWithin segments sets (live g p w)

  -- Bytes that each image has in a slot that the table names stay there at each moment from the old pool to the new one.
  abbrev pub KeepsNamed : List (ℕ × ℕ) → ShownPool D → ShownPool D → Type 0
  KeepsNamed table old new = (slot : ℕ) (bytes : List ℕ) → IsNamed table slot → Leaves (HasBytes slot bytes) (g.state (disk_of old)) → LeavesOnly g (disk_of old) (disk_of new) (HasBytes slot bytes)

  -- If each image of the slots, read by this table, gives these cells, it does so at each moment from the old pool to the
  -- new one.
  abbrev pub KeepsGiven : List (ℕ × ℕ) → ShownPool D → ShownPool D → Type 0
  KeepsGiven table old new = (cells_of : ℕ → Cell) → Leaves (GivesCells table cells_of) (g.state (disk_of old)) → LeavesOnly g (disk_of old) (disk_of new) (GivesCells table cells_of)

  -- No failure of the device is forgotten, and only a failed device call breaks a pool.
  abbrev pub BreaksByFailure : ShownPool D → ShownPool D → Type 0
  BreaksByFailure old new = (g.failures (disk_of old) ≤ g.failures (disk_of new)) × ((is_broken new ≡ is_broken old) ⊎ (g.failures (disk_of old) < g.failures (disk_of new)))

  -- What each call but `freeze` and `root_opened` keeps, of the checkpoint that is being written and of the newest root:
  -- the frozen map, and the root's table. The slots that the two tables name stay in each image. Once the frozen map is
  -- sealed, no page waits, so its table stays as it is. Where no page waits, none does afterwards.
  pub record Went (old new : ShownPool D) : Type 0 where
    pub goes : GoesOn g (disk_of old) (disk_of new)
    pub works : is_broken new ≡ false → is_broken old ≡ false
    pub breaks : BreaksByFailure old new
    pub root : new.root ≡ old.root
    pub frozen_table : Extends old.frozen new.frozen
    pub root_kept : KeepsNamed old.root old new
    pub frozen_kept : KeepsNamed old.frozen old new
    pub long : (n : ℕ) → Leaves (λ image. n ≤ length image) (g.state (disk_of old)) → LeavesOnly g (disk_of old) (disk_of new) (λ image. n ≤ length image)
    pub whole : IsWhole old → IsWhole new
    pub frozen_is : IsWhole old → SameMap (frozen g old) (frozen g new)
    pub sealed : IsTrue old.is_sealed → IsTrue new.is_sealed
    pub sealed_table : IsTrue old.is_sealed → new.frozen ≡ old.frozen
    pub limits : HasSameLimits old new
    pub none_waits : old.waiting ≡ [] → new.waiting ≡ []

  -- What each call keeps that changes no word: the live map too, if the pool is whole.
  pub record Stays (old new : ShownPool D) : Type 0 where
    pub went : Went old new
    pub live_is : IsWhole old → SameMap (live g old) (live g new)

-- Each page that is in memory now was there before, with the same cells.
abbrev pub CellsFrom : List (ℕ × Frame) → List (ℕ × Frame) → Type 0
CellsFrom old new = (q : ℕ) (f : Frame) → frame_in new q ≡ Some f → (e : Frame) × (frame_in old q ≡ Some e) × (f.cells ≡ e.cells)

-- The cells in memory name only segments and sets below these numbers.
abbrev pub AreWithin : List (ℕ × Frame) → ℕ → ℕ → Type 0
AreWithin frames segments sets = (q : ℕ) (f : Frame) → frame_in frames q ≡ Some f → (i : ℕ) → IsWithin segments sets (get_or f.cells i New)
