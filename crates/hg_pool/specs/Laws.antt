-- The laws of a pool, promised by functions without a body.
use Rattle.hg_disk.specs.declared.disk.Disk as disk
use Rattle.hg_disk.specs.Moments.{LeavesOnly}
use Rattle.hg_pool.specs.Kept.{KeepsGiven, Went}
use Rattle.hg_pool.specs.Maps.{GivesCells, IsSealed, disk_of, frozen}
use Rattle.hg_pool.specs.Shown.{ShownPool}

module _ {D : Type 0} (g : disk.Ghosts D) where
  -- calls one after another
  abbrev pub CallsJoin : Type 0
  CallsJoin = (old mid new : ShownPool D) → Went g old mid → Went g mid new → Went g old new

  -- The cells that the root's table gives in each image, it gives at each moment.
  abbrev pub RootStays : Type 0
  RootStays = (old new : ShownPool D) → Went g old new → KeepsGiven g old.root old new

  -- What was sealed stays sealed, at each moment.
  abbrev pub SealedStays : Type 0
  SealedStays = (old new : ShownPool D) → Went g old new → IsSealed g old → LeavesOnly g (disk_of old) (disk_of new) (GivesCells old.frozen (frozen g old))
