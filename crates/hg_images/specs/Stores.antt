-- The content that a store stands for, from a fact on each kind of device.
use Rattle.std.specs.Prelude.{◌≡◌, ℕ, List, Bool, Some}
use Rattle.hg_model.specs.declared.event.Named.{Named}
use Rattle.hg_model.specs.Contents.{Content}
use Rattle.hg_model.specs.Change.{followed}
use Rattle.hg_disk.specs.State.{DiskState, IsImage}
use Rattle.hg_disk.specs.Moments.{Leaves}
use Rattle.hg_images.specs.Choices.{Basis, GivesDurable, HasBothSlots, HasEitherRoots, HaveEvents, Stands}
use Rattle.hg_images.specs.Images.{Image}

-- the states of the five devices
pub record States : Type 0 where
  pub journal0 : DiskState
  pub journal1 : DiskState
  pub slots : DiskState
  pub root0 : DiskState
  pub root1 : DiskState

-- what a crash may leave of the devices as they are
pub record IsLeft (devices : States) (image : Image) : Type 0 where
  pub journal0 : IsImage devices.journal0 image.journal0
  pub journal1 : IsImage devices.journal1 image.journal1
  pub slots : IsImage devices.slots image.slots
  pub root0 : IsImage devices.root0 image.root0
  pub root1 : IsImage devices.root1 image.root1

-- The devices of a store, the content with all accepted events, the accepted events that are not committed, the count of
-- the committed ones, and whether a commit failed.
pub record View : Type 0 where
  pub devices : States
  pub live : Content
  pub pending : List Named
  pub durable : ℕ
  pub in_doubt : Bool

-- The store stands for the durable content d: the pending events lead from d to the live content, and each image of the
-- devices has d. After a failed commit an image may have the live content instead.
pub record Backs (s : View) (d : Content) : Type 0 where
  pub live : followed d s.pending ≡ Some s.live
  pub count : s.durable ≡ d.events
  pub stands : (image : Image) → IsLeft s.devices image → Stands d s.live s.in_doubt image

-- One fact on each kind of device: they have this basis, for the durable content d.
pub record KeepsContent (basis : Basis) (s : View) (d : Content) : Type 0 where
  pub gives : GivesDurable basis d
  pub live : followed d s.pending ≡ Some s.live
  pub count : s.durable ≡ d.events
  pub journals : (one other : List ℕ) → IsImage s.devices.journal0 one → IsImage s.devices.journal1 other → HaveEvents basis s.pending s.in_doubt one other
  pub roots : (one other : List ℕ) → IsImage s.devices.root0 one → IsImage s.devices.root1 other → HasEitherRoots basis one other
  pub slots : Leaves (HasBothSlots basis) s.devices.slots

-- From the facts follows the content of each joint image.
abbrev pub FactsBack : Type 0
FactsBack = (basis : Basis) (s : View) (d : Content) → KeepsContent basis s d → Backs s d
