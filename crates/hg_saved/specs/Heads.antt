-- What the newest root says of the events that it counts.
use Rattle.std.specs.Prelude.{◌≡◌, List, ℕ, Option, Some, None, IfSome, length}
use Rattle.hg_disk.specs.declared.disk.Disk as disk
use Rattle.hg_pages.specs.Files as files
use Rattle.hg_pages.specs.declared.slot_file.SlotFile.{SlotFile}
use Rattle.hg_root.specs.Checkpoints.{Checkpoint, HasCheckpoint, LieWithin, root_of}
use Rattle.hg_root.specs.Newest.{IsNewest}
use Rattle.hg_root.specs.Pairs as pairs
use Rattle.hg_root.specs.Parts.{Parts}
use Rattle.hg_root.specs.declared.pair.RootPair.{RootPair}
use Rattle.hg_saved.specs.declared.head.SavedHead.{SavedHead}

-- It is what the root says.
pub record IsHeadOf (root : Parts) (head : SavedHead) : Type 0 where
  pub events : head.events ≡ root.events
  pub segments : head.segments ≡ length root.segments
  pub threads : head.threads.items ≡ root.threads

-- It is what the root says, and there is none where there is no root.
abbrev pub IsHeadIn : Option Parts → Option SavedHead → Type 0
IsHeadIn None None = Unit {0}
IsHeadIn None (Some head) = ⊥
IsHeadIn (Some root) None = ⊥
IsHeadIn (Some root) (Some head) = IsHeadOf root head

-- It is what the newest root of these files says, where the slots of the other root lie within the file of slots. Each checkpoint that the
-- files have is one of that root.
pub record IsSavedHead (one other slots : List ℕ) (head : Option SavedHead) : Type 0 where
  pub root : Option Parts
  pub former : Option Parts
  pub newest : IsNewest root former one other
  pub within : IfSome former (LieWithin slots)
  pub says : IsHeadIn root head
  pub only : (c : Option Checkpoint) → HasCheckpoint c one other slots → root_of c ≡ root

module _ {D : Type 0} (g : disk.Ghosts D) where
  -- So it is of the pair and the file of slots.
  abbrev pub IsHeadWithin : RootPair D → SlotFile D → Option SavedHead → Type 0
  IsHeadWithin roots file head =
      IsSavedHead (pairs.first_bytes g roots) (pairs.second_bytes g roots) (g.state (files.disk_of file)).contents head
