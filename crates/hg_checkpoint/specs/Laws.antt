-- The pages of checkpoints in the slots of a pool.
use Rattle.std.specs.Prelude.{Option}
use Rattle.hg_disk.specs.declared.disk.Disk as disk
use Rattle.hg_disk.specs.Moments.{Leaves, LeavesOnly}
use Rattle.hg_pool.specs.Kept.{Went}
use Rattle.hg_pool.specs.Maps.{IsSealed, disk_of, frozen}
use Rattle.hg_pool.specs.Shown.{ShownPool}
use Rattle.hg_root.specs.Checkpoints.{Checkpoint, HasPages, HasSlotsOf}
use Rattle.hg_root.specs.Parts.{Parts}
use Rattle.hg_contents.specs.Maps.{IsKnownTo, checkpoint_of}
use Rattle.hg_checkpoint.specs.Tables.{HasTable, NamesOf}

module _ {D : Type 0} (g : disk.Ghosts D) where
  -- Once the frozen map is sealed, each image of the slots has the pages of the checkpoint of the frozen map and a root
  -- with the frozen table.
  abbrev pub SealedSlotsHaveTheCheckpoint : Type 0
  SealedSlotsHaveTheCheckpoint =
      (p : ShownPool D) (root : Parts) → IsSealed g p → HasTable root p.frozen → IsKnownTo root (frozen g p)
      → Leaves (λ slots. HasPages slots (checkpoint_of root (frozen g p))) (g.state (disk_of p))

  -- The slots that the root's table names keep the pages of the checkpoint, and those of the former root stay within the
  -- file, whatever pool calls come (`Went`).
  abbrev pub SlotsStay : Type 0
  SlotsStay =
      (old new : ShownPool D) (now : Option Checkpoint) (former : Option Parts) → Went g old new → NamesOf old.root now
      → Leaves (HasSlotsOf now former) (g.state (disk_of old)) → LeavesOnly g (disk_of old) (disk_of new) (HasSlotsOf now former)

  -- The slots that the frozen table names keep the pages of the next checkpoint, and those of the former root stay within
  -- the file, whatever pool calls come (`Went`).
  abbrev pub FrozenSlotsStay : Type 0
  FrozenSlotsStay =
      (old new : ShownPool D) (next : Option Checkpoint) (former : Option Parts) → Went g old new → NamesOf old.frozen next
      → Leaves (HasSlotsOf next former) (g.state (disk_of old)) → LeavesOnly g (disk_of old) (disk_of new) (HasSlotsOf next former)
