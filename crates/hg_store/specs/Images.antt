-- What a crash may leave of the devices of a store, from one moment to another, and what a read gives then.
use Rattle.std.specs.Prelude.{◌≡◌, ◌⊎◌, ◌+◌, ℕ, List, [], ◌∷◌, All, Option, Some, IfSome}
use Rattle.hg_model.specs.declared.event.Named.{Named}
use Rattle.hg_model.specs.Contents.{Content}
use Rattle.hg_model.specs.Change.{followed}
use Rattle.hg_disk.specs.Calls.{CallsAtMost}
use Rattle.hg_disk.specs.Moments.{GoesOn, Leaves, LeavesOnly, MayLeave}
use Rattle.hg_disk.specs.State.{IsImage, SameImages}
use Rattle.hg_disk.specs.declared.disk.Disk as disk
use Rattle.hg_pages.specs.Slots.{HasBytes}
use Rattle.hg_root.specs.Checkpoints.{Checkpoint, HasCheckpoint, root_of}
use Rattle.hg_root.specs.Finding.{WasRead, number_in}
use Rattle.hg_contents.specs.Images.{content_of}
use Rattle.hg_images.specs.Images.{HasContent, Image, count_of}
use Rattle.hg_images.specs.Stores.{IsLeft, States}
use Rattle.hg_store.specs.declared.devices.Devices.{Devices}

module _ {D : Type 0} (g : disk.Ghosts D) where
  abbrev pub states_of : Devices D → States
  states_of devices = record { journal0 = g.state devices.journal0; journal1 = g.state devices.journal1; slots = g.state devices.slots; root0 = g.state devices.root0; root1 = g.state devices.root1 }

  -- what a crash may leave of the devices from one moment to another, each device on its own
  pub record MayLeaveAll (old new : Devices D) (image : Image) : Type 0 where
    pub journal0 : MayLeave g old.journal0 new.journal0 image.journal0
    pub journal1 : MayLeave g old.journal1 new.journal1 image.journal1
    pub slots : MayLeave g old.slots new.slots image.slots
    pub root0 : MayLeave g old.root0 new.root0 image.root0
    pub root1 : MayLeave g old.root1 new.root1 image.root1

  -- Each image of the devices from `old` to `new`, both included, has P.
  pub record EachImage (old new : Devices D) (P : Image → Type 0) : Type 0 where
    pub journal0 : GoesOn g old.journal0 new.journal0
    pub journal1 : GoesOn g old.journal1 new.journal1
    pub slots : GoesOn g old.slots new.slots
    pub root0 : GoesOn g old.root0 new.root0
    pub root1 : GoesOn g old.root1 new.root1
    pub each : (image : Image) → MayLeaveAll old new image → P image

  -- Each image of the devices has a checkpoint with this number and this content, and its root is the newest open one.
  pub record HasOpened (devices : Devices D) (number : ℕ) (c : Content) : Type 0 where
    pub checkpoint : Checkpoint
    pub is_number : checkpoint.root.number ≡ number
    pub events : checkpoint.root.events ≡ c.events
    pub is_content : content_of checkpoint ≡ c
    pub newest : (image : Image) → IsLeft (states_of devices) image → HasCheckpoint (Some checkpoint) image.root0 image.root1 image.slots

  -- Each image of the devices has one newest checkpoint, with this number, which counts so many events; or none, where both
  -- are 0.
  pub record HasNumber (devices : Devices D) (number counted : ℕ) : Type 0 where
    pub checkpoint : Option Checkpoint
    pub is_number : number ≡ number_in (root_of checkpoint)
    pub is_count : counted ≡ count_of checkpoint
    pub newest : (image : Image) → IsLeft (states_of devices) image → HasCheckpoint checkpoint image.root0 image.root1 image.slots

  -- what the devices read
  abbrev pub read_of : Devices D → Image
  read_of devices = record {
    journal0 = (g.state devices.journal0).contents;
    journal1 = (g.state devices.journal1).contents;
    slots = (g.state devices.slots).contents;
    root0 = (g.state devices.root0).contents;
    root1 = (g.state devices.root1).contents;
  }

  -- how many calls of the devices have failed
  abbrev pub failures_of : Devices D → ℕ
  failures_of devices = g.failures devices.journal0 + g.failures devices.journal1 + g.failures devices.slots + g.failures devices.root0 + g.failures devices.root1

  -- The count of failed calls changes by this function.
  abbrev pub FailuresBecome : (old new : Devices D) → (ℕ → ℕ) → Type 0
  FailuresBecome old new count = failures_of new ≡ count (failures_of old)

  -- n calls of the devices failed.
  abbrev pub FailuresGrowBy : (old new : Devices D) → ℕ → Type 0
  FailuresGrowBy old new n = failures_of new ≡ n + failures_of old

  -- Each image of the devices is one that they left at first.
  abbrev pub KeepImages : (old new : Devices D) → Type 0
  KeepImages old new = EachImage old new (IsLeft (states_of old))

  -- Each image of one device is one that it had at first.
  abbrev pub LeavesOld : (old new : D) → Type 0
  LeavesOld old new = LeavesOnly g old new (IsImage (g.state old))

-- What stays of the files when a store is looked for
module _ {D : Type 0} (g : disk.Ghosts D) where
  -- a read of the device gives what it gave
  abbrev pub ReadsSame : (old new : D) → Type 0
  ReadsSame old new = (g.state new).contents ≡ (g.state old).contents

  -- A read of each journal, and of each root, gives what it gave.
  pub record FilesReadSame (old new : Devices D) : Type 0 where
    pub journal0 : ReadsSame old.journal0 new.journal0
    pub journal1 : ReadsSame old.journal1 new.journal1
    pub root0 : ReadsSame old.root0 new.root0
    pub root1 : ReadsSame old.root1 new.root1

  -- The one call of this device failed, a sync, and no other call of the devices did. A read gives one of its images.
  pub record FailedToSync (old new : Devices D) (before after : D) : Type 0 where
    pub images : SameImages (g.state before) (g.state after)
    pub once : g.past after ≡ g.state before ∷ g.past before
    pub failures : FailuresGrowBy g old new 1

  -- A read of the device gives what it gave, or its sync failed.
  abbrev pub ReadsOrFailed : (old new : Devices D) → (before after : D) → Type 0
  ReadsOrFailed old new before after = ReadsSame before after ⊎ FailedToSync old new before after

  -- So it is with each device.
  pub record EachReadsOrFailed (old new : Devices D) : Type 0 where
    pub journal0 : ReadsOrFailed old new old.journal0 new.journal0
    pub journal1 : ReadsOrFailed old new old.journal1 new.journal1
    pub slots : ReadsOrFailed old new old.slots new.slots
    pub root0 : ReadsOrFailed old new old.root0 new.root0
    pub root1 : ReadsOrFailed old new old.root1 new.root1

  -- The device is kept: a read gives what it gave, or its sync failed; and each image, at each moment, is one that it had at
  -- first.
  pub record IsKept (old new : Devices D) (before after : D) : Type 0 where
    pub bytes : ReadsOrFailed old new before after
    pub images : LeavesOld g before after

  -- Both journals and both roots are kept.
  pub record KeepsFiles (old new : Devices D) : Type 0 where
    pub journal0 : IsKept old new old.journal0 new.journal0
    pub journal1 : IsKept old new old.journal1 new.journal1
    pub root0 : IsKept old new old.root0 new.root0
    pub root1 : IsKept old new old.root1 new.root1

  -- The bytes that this file has in the slot are there in what a read of the device gives, and in each image.
  abbrev pub KeepsSlot : (file : List ℕ) → D → (slot : ℕ) → Type 0
  KeepsSlot file device slot =
      (bytes : List ℕ) → HasBytes slot bytes file → HasBytes slot bytes (g.state device).contents × Leaves (HasBytes slot bytes) (g.state device)

  -- The image has a checkpoint, or none, and the device keeps each slot that its root names.
  abbrev pub KeepsCheckpoint : Image → D → Type 0
  KeepsCheckpoint image device =
      (now : Option Checkpoint) × HasCheckpoint now image.root0 image.root1 image.slots
      × IfSome now (λ c. All (λ p. KeepsSlot image.slots device p.slot) c.root.pages)

  -- The slots are kept; or the devices have a checkpoint, or none, and each slot that its root names keeps its bytes.
  abbrev pub KeepsSlots : (old new : Devices D) → Type 0
  KeepsSlots old new = IsKept old new old.slots new.slots ⊎ KeepsCheckpoint (read_of g old) new.slots

  -- The device was only read: its state stays, and no moment adds an image.
  pub record IsOnlyRead (old new : D) : Type 0 where
    pub state : g.state new ≡ g.state old
    pub images : LeavesOld g old new

  -- Each journal was only read, and each root with three calls at most.
  pub record FilesWereRead (old new : Devices D) : Type 0 where
    pub journal0 : IsOnlyRead old.journal0 new.journal0
    pub journal1 : IsOnlyRead old.journal1 new.journal1
    pub root0 : WasRead g old.root0 new.root0
    pub root1 : WasRead g old.root1 new.root1

  -- The slots were only read; or the devices have a checkpoint, or none, and each slot that its root names keeps its bytes.
  abbrev pub ReadsSlots : (old new : Devices D) → Type 0
  ReadsSlots old new = IsOnlyRead old.slots new.slots ⊎ KeepsCheckpoint (read_of g old) new.slots

  -- Each root was called at most so often.
  abbrev pub RootCallsAtMost : ℕ → (old new : Devices D) → Type 0
  RootCallsAtMost most old new = CallsAtMost g most old.root0 new.root0 × CallsAtMost g most old.root1 new.root1

-- The image has each content that the image `before` has.
abbrev pub HasContentOf : Image → Image → Type 0
HasContentOf before image = (c : Content) → HasContent before c → HasContent image c

module _ {D : Type 0} (g : disk.Ghosts D) where
  -- The image has the content of one that the devices left.
  abbrev pub HasContentOfOne : Devices D → Image → Type 0
  HasContentOfOne devices image = (before : Image) × IsLeft (states_of g devices) before × HasContentOf before image

  -- Each image of the devices has the content that they read at first.
  abbrev pub KeepContent : (old new : Devices D) → Type 0
  KeepContent old new = EachImage g old new (HasContentOf (read_of g old))

  -- Up to the moment `synced`, and from there on, each image of the devices has the content of one that they left at first.
  pub record Recovers (old new : Devices D) : Type 0 where
    pub synced : Devices D
    pub before : EachImage g old synced (HasContentOfOne old)
    pub behind : EachImage g synced new (HasContentOfOne old)

-- The image has the content after a front of the events that lead from the first content to the last.
pub record IsOn (first last : Content) (image : Image) : Type 0 where
  pub content : Content
  pub has : HasContent image content
  pub front : List Named
  pub back : List Named
  pub before : followed first front ≡ Some content
  pub behind : followed content back ≡ Some last

-- Between each two neighbours of these moments, the newest first, and from the newest one to now, each image has P.
abbrev pub EachImageAlong : {D : Type 0} → disk.Ghosts D → (start : Devices D) → List (Devices D) → (now : Devices D) → (Image → Type 0) → Type 0
EachImageAlong g start [] now P = EachImage g start now P
EachImageAlong g start (mid ∷ earlier) now P = EachImage g mid now P × EachImageAlong g start earlier mid P
