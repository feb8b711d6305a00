-- The content of joint images, from a fact on each kind of device.
use Rattle.std.specs.Prelude.{◌≡◌, ◌⊎◌, ◌++◌, ℕ, List, Bool, true, Option, Some}
use Rattle.hg_model.specs.declared.event.Named.{Named}
use Rattle.hg_model.specs.Contents.{Content}
use Rattle.hg_model.specs.Change.{followed}
use Rattle.hg_journal.specs.Journal.{IsJournal}
use Rattle.hg_root.specs.Checkpoints.{Checkpoint, HasSlotsOf, root_of}
use Rattle.hg_root.specs.Newest.{IsNewest}
use Rattle.hg_root.specs.Parts.{Parts}
use Rattle.hg_contents.specs.Images.{Gives, HasContent, Image}

-- A checkpoint, or none, and the root that the other file may have.
pub record Choice : Type 0 where
  pub checkpoint : Option Checkpoint
  pub former : Option Parts

-- The root files have this choice, and so does the file of slots.
abbrev pub HasRoots : Choice → List ℕ → List ℕ → Type 0
HasRoots choice one other = IsNewest (root_of choice.checkpoint) choice.former one other

abbrev pub HasSlots : Choice → List ℕ → Type 0
HasSlots choice slots = HasSlotsOf choice.checkpoint choice.former slots

-- The journal has these events or, in doubt, the pending ones too.
abbrev pub HasEvents : List Named → List Named → Bool → List ℕ → Type 0
HasEvents events pending in_doubt journal = IsJournal journal events ⊎ ((in_doubt ≡ true) × IsJournal journal (events ++ pending))

-- What the devices have: the durable events, and the checkpoint of `now`. While the root of another checkpoint is opened,
-- or after that failed, they may have that of `next` instead. At rest the two are the same.
pub record Basis : Type 0 where
  pub events : List Named
  pub now : Choice
  pub next : Choice

-- With either checkpoint, the durable events give this content.
pub record GivesDurable (basis : Basis) (durable : Content) : Type 0 where
  pub now : Gives basis.now.checkpoint basis.events durable
  pub next : Gives basis.next.checkpoint basis.events durable

abbrev pub HasEitherRoots : Basis → List ℕ → List ℕ → Type 0
HasEitherRoots basis one other = HasRoots basis.now one other ⊎ HasRoots basis.next one other

abbrev pub HasBothSlots : Basis → List ℕ → Type 0
HasBothSlots basis slots = HasSlots basis.now slots × HasSlots basis.next slots

-- The journal, the roots and the slots of an image, each on its own.
pub record HasParts (basis : Basis) (pending : List Named) (in_doubt : Bool) (image : Image) : Type 0 where
  pub journal : HasEvents basis.events pending in_doubt image.journal
  pub roots : HasEitherRoots basis image.root0 image.root1
  pub slots : HasBothSlots basis image.slots

-- The image has the durable content or, in doubt, the live one.
abbrev pub Stands : Content → Content → Bool → Image → Type 0
Stands durable live in_doubt image = HasContent image durable ⊎ ((in_doubt ≡ true) × HasContent image live)

-- If each part of an image on its own fits the basis, the image has the durable content or, in doubt, the live one.
abbrev pub JointImages : Type 0
JointImages =
    (basis : Basis) (pending : List Named) (in_doubt : Bool) (durable live : Content) (image : Image) → GivesDurable basis durable → followed durable pending ≡ Some live
    → HasParts basis pending in_doubt image → Stands durable live in_doubt image
