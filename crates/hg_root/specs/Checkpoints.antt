-- The checkpoint that two root files and a file of slots have together.
use Rattle.std.specs.Prelude.{◌⊎◌, ◌≤◌, ◌+◌, ◌*◌, ℕ, List, length, Option, Some, None, All, IfSome}
use Rattle.hg_cells.specs.declared.cell.Cell.{Cell}
use Rattle.hg_disk.specs.Moments.{LeavesOnly, MayLeave}
use Rattle.hg_disk.specs.declared.disk.Disk as disk
use Rattle.hg_pages.specs.Slots.{HasPage}
use Rattle.hg_root.specs.Newest.{IsNewest}
use Rattle.hg_root.specs.Pairs.{EachPair, newer, older}
use Rattle.hg_root.specs.Parts.{Parts}
use Rattle.hg_root.specs.declared.pair.RootPair.{RootPair}

-- A checkpoint: a root, and the cells of each page.
pub record Checkpoint : Type 0 where
  pub root : Parts
  pub cells_of : ℕ → List Cell

-- the root of a checkpoint, if there is one
abbrev pub root_of : Option Checkpoint → Option Parts
root_of None = None
root_of (Some c) = Some c.root

-- Each page of the checkpoint stands in its slot of the file, and its cells name only segments and sets of the root.
abbrev pub HasPages : List ℕ → Checkpoint → Type 0
HasPages slots c = All (λ p. HasPage (length c.root.segments) c.root.sets p.slot p.page (c.cells_of p.page) slots) c.root.pages

-- The slots of a root lie within the file.
abbrev pub LieWithin : List ℕ → Parts → Type 0
LieWithin slots root = All (λ p. 3080 * p.slot + 3080 ≤ length slots) root.pages

-- The file of slots has the pages of the newest checkpoint, if there is one, and the slots of the former root lie within
-- it.
abbrev pub HasSlotsOf : Option Checkpoint → Option Parts → List ℕ → Type 0
HasSlotsOf now former slots = IfSome now (HasPages slots) × IfSome former (LieWithin slots)

-- The files have this checkpoint, or none: its root is the newest open one, and the slots have its pages. The slots of the lesser root, if one is open,
-- lie within the file.
pub record HasCheckpoint (now : Option Checkpoint) (one other slots : List ℕ) : Type 0 where
  pub former : Option Parts
  pub newest : IsNewest (root_of now) former one other
  pub stand : HasSlotsOf now former slots

-- one of two checkpoints, or none
abbrev pub HasEither : Option Checkpoint → Option Checkpoint → List ℕ → List ℕ → List ℕ → Type 0
HasEither now next one other slots = HasCheckpoint now one other slots ⊎ HasCheckpoint next one other slots

module _ {D E : Type 0} (g : disk.Ghosts D) (h : disk.Ghosts E) where
  -- From a fact on the images of two root files and a fact on the images of a file of slots: all images together have one
  -- checkpoint.
  abbrev pub JointImages : Type 0
  JointImages =
      (old new : RootPair D) (from to : E) (now next : Option Checkpoint) (former before : Option Parts)
      → EachPair g old new (λ one other. IsNewest (root_of now) former one other ⊎ IsNewest (root_of next) before one other)
      → LeavesOnly h from to (λ slots. HasSlotsOf now former slots × HasSlotsOf next before slots)
      → (one other slots : List ℕ) → MayLeave g (older old) (older new) one → MayLeave g (newer old) (newer new) other → MayLeave h from to slots
      → HasEither now next one other slots
