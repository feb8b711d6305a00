-- What contracts see of a pool.
use Rattle.std.specs.Prelude.{◌≡◌, ℕ, List, Bool}
use Rattle.hg_cells.specs.declared.cell.Cell.{Cell}
use Rattle.hg_pages.specs.declared.slot_file.SlotFile.{SlotFile}
pub use Rattle.hg_cache.specs.declared.frame.Frame.{Frame}

-- The file of slots. The tables of the newest root, of the frozen map and of the live one: pages and their slots. The pages
-- that wait to be written for the frozen map, each with the slot that was picked for it. The frozen cells of waiting pages
-- that were changed since the freeze. The pages in memory, the page used last first, and the greatest number of them. The
-- number of slots. Whether the frozen map was sealed.
pub record ShownPool (D : Type 0) : Type 0 where
  pub file : SlotFile D
  pub root : List (ℕ × ℕ)
  pub frozen : List (ℕ × ℕ)
  pub live : List (ℕ × ℕ)
  pub waiting : List (ℕ × ℕ)
  pub copies : List (ℕ × List Cell)
  pub frames : List (ℕ × Frame)
  pub most_frames : ℕ
  pub slots : ℕ
  pub is_sealed : Bool

-- The greatest number of pages in memory and the number of slots stay.
abbrev pub HasSameLimits : {D : Type 0} → (old new : ShownPool D) → Type 0
HasSameLimits old new = (new.most_frames ≡ old.most_frames) × (new.slots ≡ old.slots)
