-- The invariant of a pool.
use Rattle.std.specs.Prelude.{◌≡◌, ◌+◌, ◌≤◌, ◌<◌, ℕ, Bool, true, false, List, [], length, Option, Some, None, is_some, IsTrue}
use Rattle.std.specs.Option.{unwrap_or}
use Rattle.lru.specs.LruCache.{LruCache}
use Rattle.hg_cells.specs.declared.cell.Cell.{Cell}
use Rattle.hg_pages.specs.declared.decoded.TheConstants.{MOST_PAGES}
use Rattle.hg_pages.specs.declared.slot_file.TheConstants.{MOST_SLOTS}
use Rattle.hg_pages.specs.Tables as tables
use Rattle.hg_pages.specs.Tables.{IsNamed, slot_in}
use Rattle.hg_cache.specs.declared.frame.Frame.{Frame}
use Rattle.hg_pool.specs.declared.parts.Parts.{Parts}
use Rattle.hg_pool.specs.Maps.{copy_in, frame_in}
use Rattle.hg_pool.specs.Shown.{ShownPool}
use Rattle.hg_pool.specs.Tables.{FindsBelow}

-- the frozen table: the root's if there is no other
abbrev pub frozen_of : {D : Type 0} → Parts D → tables.ShownTable
frozen_of p = unwrap_or p.frozen p.root

-- what contracts see
abbrev pub shown_of : {D : Type 0} → Parts D → ShownPool D
shown_of p = record {
  file = p.file;
  root = p.root.entries;
  frozen = (frozen_of p).entries;
  live = p.live.entries;
  waiting = p.waiting.entries;
  copies = p.copies.entries;
  frames = p.frames.entries;
  most_frames = p.frames.cap;
  slots = p.slots;
  is_sealed = p.is_sealed;
}

-- A page in memory was written: only the file, the live table and the frames have changed.
abbrev pub ChangesFrames : {D : Type 0} → (old new : Parts D) → Type 0
ChangesFrames old new = new ≡ record old { file = new.file; live = new.live; frames = new.frames }

-- A page waits no more: only the frozen table, the waiting pages and the copies have changed.
abbrev pub ChangesWaiting : {D : Type 0} → (old new : Parts D) → Type 0
ChangesWaiting old new = new ≡ record old { frozen = new.frozen; waiting = new.waiting; copies = new.copies }

-- A checkpoint has begun, with this frozen table and these pages that wait.
abbrev pub HasBegun : {D : Type 0} → tables.ShownTable → tables.ShownTable → (old new : Parts D) → Type 0
HasBegun table waiting old new = new ≡ record old { frozen = Some table; waiting = waiting; copies = new.copies; is_sealed = false }

-- Only the frozen and the live table, the waiting pages with their copies, the seal, and the start of the search have
-- changed.
abbrev pub ChangesTables : {D : Type 0} → (old new : Parts D) → Type 0
ChangesTables old new =
    new ≡ record old { frozen = new.frozen; live = new.live; waiting = new.waiting; copies = new.copies; is_sealed = new.is_sealed; search_from = new.search_from }

-- A page waits for this slot: no table names the slot; the page is not written yet; without a copy, it is in memory as it
-- was frozen; and there is room for its entries.
pub record IsPicked (root : tables.ShownTable) (frozen : Option tables.ShownTable) (live waiting : tables.ShownTable) (copies : List (ℕ × List Cell)) (frames : List (ℕ × Frame)) (slots page slot : ℕ) : Type 0 where
  pub not_root : ¬ IsNamed root.entries slot
  pub not_frozen : ¬ IsNamed (unwrap_or frozen root).entries slot
  pub not_live : ¬ IsNamed live.entries slot
  pub unwritten : slot_in (unwrap_or frozen root).entries page ≡ None
  pub present : copy_in copies page ≡ None → (f : Frame) × (frame_in frames page ≡ Some f) × (f.is_dirty ≡ true)
  pub own : is_some frozen ≡ true
  pub frozen_room : length (unwrap_or frozen root).entries + length waiting.entries ≤ (unwrap_or frozen root).capacity
  pub live_room : length live.entries + length waiting.entries ≤ live.capacity
  pub frozen_slots : slot < (unwrap_or frozen root).slots
  pub live_slots : slot < live.slots
  pub within : slot < slots
  pub number : page < MOST_PAGES

-- The parts agree with each other.
pub record AreSound (root : tables.ShownTable) (frozen : Option tables.ShownTable) (live waiting : tables.ShownTable) (copies : LruCache ℕ (List Cell)) (frames : LruCache ℕ Frame) (slots : ℕ) (is_sealed : Bool) : Type 0 where
  pub picked : (page slot : ℕ) → slot_in waiting.entries page ≡ Some slot → IsPicked root frozen live waiting copies.entries frames.entries slots page slot
  pub copied : (page : ℕ) (cells : List Cell) → copy_in copies.entries page ≡ Some cells → is_some (slot_in waiting.entries page) ≡ true
  pub few : length waiting.entries ≤ frames.cap
  pub most : copies.cap ≡ frames.cap
  pub numbers : (page : ℕ) (f : Frame) → frame_in frames.entries page ≡ Some f → page < MOST_PAGES
  pub sealed : IsTrue is_sealed → waiting.entries ≡ []
  pub most_frames : frames.cap ≤ 4096
  pub least_frames : 2 ≤ frames.cap
  pub most_slots : slots ≤ MOST_SLOTS
  pub root_below : FindsBelow slots root.entries
  pub frozen_below : FindsBelow slots (unwrap_or frozen root).entries
  pub live_below : FindsBelow slots live.entries

abbrev pub IsSound : {D : Type 0} → Parts D → Type 0
IsSound p = AreSound p.root p.frozen p.live p.waiting p.copies p.frames p.slots p.is_sealed
