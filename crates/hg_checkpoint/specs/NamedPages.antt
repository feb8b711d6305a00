-- Whether a file of slots has what a root names.
use Rattle.std.specs.Prelude.{◌≡◌, ℕ, List, map, All, Result, IsErrOf}
use Rattle.hg_cells.specs.declared.cell.Cell.{Cell}
use Rattle.hg_disk.specs.declared.disk.Disk as disk
use Rattle.hg_pages.specs.Files.{known}
use Rattle.hg_pages.specs.Slots.{HasPage}
use Rattle.hg_pages.specs.declared.fault.SlotFault.{SlotFault}
use Rattle.hg_pages.specs.declared.fault.SlotFault.TheVariants.{Damaged}
use Rattle.hg_pages.specs.declared.slot_file.SlotFile.{SlotFile}
use Rattle.hg_root.specs.declared.parts.PageSlot.{PageSlot}
use Rattle.hg_root.specs.Checkpoints.{Checkpoint, HasPages}
use Rattle.hg_root.specs.Parts.{Parts}

-- The slot has the page with some cells, which name only known segments and sets.
abbrev pub HasSomePage : ℕ → List (List ℕ) → List ℕ → PageSlot → Type 0
HasSomePage segments sets slots p = (cells : List Cell) × HasPage segments sets p.slot p.page cells slots

-- The slots have the pages of a checkpoint with these parts.
abbrev pub HasPagesOf : Parts → List ℕ → Type 0
HasPagesOf root slots = (c : Checkpoint) × (c.root ≡ root) × HasPages slots c

-- the pages with their slots, as a table has them
abbrev pub entries_of : List PageSlot → List (ℕ × ℕ)
entries_of pages = map (λ p. (p.page, p.slot)) pages

module _ {D : Type 0} (g : disk.Ghosts D) where
  -- The same of each of these pages, in what is known of a file.
  abbrev pub HasEachIn : SlotFile D → ℕ → List (List ℕ) → List PageSlot → Type 0
  HasEachIn file segments sets pages = All (HasSomePage segments sets (known g file)) pages

  -- Damaged is told only if a slot does not have its page.
  abbrev pub LacksOne : {T : Type 0} → SlotFile D → ℕ → List (List ℕ) → List PageSlot → Result T SlotFault → Type 0
  LacksOne file segments sets pages result = IsErrOf result Damaged → ¬ HasEachIn file segments sets pages

  -- Damaged is told only if the slots do not have the pages.
  abbrev pub LacksPages : {T : Type 0} → SlotFile D → Parts → Result T SlotFault → Type 0
  LacksPages file root result = IsErrOf result Damaged → ¬ HasPagesOf root (known g file)
