-- Tables: their pages and slots, and a table in which a page was given a slot.
use Rattle.std.specs.Prelude.{◌≡◌, ◌+◌, ◌≤◌, ◌<◌, ◌==◌, ℕ, List, length, Some, All, is_some, if◌then◌else◌}
use Rattle.hg_pages.specs.declared.decoded.TheConstants.{MOST_PAGES}
use Rattle.hg_pages.specs.declared.slot_file.TheConstants.{MOST_SLOTS}
use Rattle.hg_pages.specs.Tables.{AreEntries, ShownTable, slot_in}

-- the pages have numbers of pages, and the slots are below this number
abbrev pub AreBelow : ℕ → List (ℕ × ℕ) → Type 0
AreBelow slots table = All (λ e. (e.0 < MOST_PAGES) × (e.1 < slots)) table

-- the pages that are found have numbers of pages, and their slots are below this number
abbrev pub FindsBelow : ℕ → List (ℕ × ℕ) → Type 0
FindsBelow slots table = (page slot : ℕ) → slot_in table page ≡ Some slot → (page < MOST_PAGES) × (slot < slots)

-- A root can name the table: its pages rise, no slot has two pages, all numbers are within the profile, and there are no
-- more entries than slots.
pub record IsNameable (slots : ℕ) (table : List (ℕ × ℕ)) : Type 0 where
  pub entries : AreEntries table
  pub below : AreBelow slots table
  pub few : length table ≤ slots
  pub most : slots ≤ MOST_SLOTS

-- The page has the slot, other pages keep theirs, and there is no less room.
pub record IsSetAt (page slot : ℕ) (old new : ShownTable) : Type 0 where
  pub looks : (other : ℕ) → slot_in new.entries other ≡ (if page == other then Some slot else slot_in old.entries other)
  pub size : length new.entries ≡ length old.entries + (if is_some (slot_in old.entries page) then 0 else 1)
  pub capacity : old.capacity ≤ new.capacity
  pub slots : old.slots ≤ new.slots
