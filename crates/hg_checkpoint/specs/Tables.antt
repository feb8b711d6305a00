-- The page table of a root, as a table of a pool has it.
use Rattle.std.specs.Prelude.{◌≡◌, ℕ, List, map, All, Option, Some, IfSome}
use Rattle.hg_pages.specs.Tables.{AreEntries, slot_in}
use Rattle.hg_root.specs.Checkpoints.{Checkpoint}
use Rattle.hg_root.specs.Parts.{Parts}
use Rattle.hg_root.specs.declared.parts.PageSlot.{PageSlot}

-- the pages of a table, each with its slot
abbrev pub pages_of : List (ℕ × ℕ) → List PageSlot
pages_of table = map (λ e. record { page = e.0; slot = e.1 }) table

-- The root has the pages of the table, and the table is in order.
pub record HasTable (root : Parts) (table : List (ℕ × ℕ)) : Type 0 where
  pub pages : root.pages ≡ pages_of table
  pub entries : AreEntries table

-- Each page of the root has its slot in the table.
abbrev pub Names : List (ℕ × ℕ) → Parts → Type 0
Names table root = All (λ p. slot_in table p.page ≡ Some p.slot) root.pages

-- If there is a checkpoint, each page of its root has its slot in the table.
abbrev pub NamesOf : List (ℕ × ℕ) → Option Checkpoint → Type 0
NamesOf table c = IfSome c (λ c. Names table c.root)
