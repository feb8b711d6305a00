-- The content of joint images, from a fact on each kind of device.
use Rattle.std.specs.Prelude.{◌≡◌, ◌≤◌, ◌⊎◌, ◌++◌, ℕ, List, Bool, true, Some}
use Rattle.hg_model.specs.declared.event.Named.{Named}
use Rattle.hg_model.specs.Contents.{Content}
use Rattle.hg_model.specs.Change.{followed}
use Rattle.hg_journals.specs.Journals.{HaveJournals, behind}
use Rattle.hg_contents.specs.Choices.{Choice, HasRoots, HasSlots}
use Rattle.hg_images.specs.Images.{Gives, HasContent, Image, count_of}

-- What the devices have: the durable events behind the base, and the checkpoint of `now`. While events up to `next_base`
-- are given up, or after that failed, the journals may have those behind `next_base` alone. While the root of another
-- checkpoint is opened, or after that failed, the roots may have that of `next` instead. At rest the two bases are the
-- same, and so are the two choices.
pub record Basis : Type 0 where
  pub base : ℕ
  pub next_base : ℕ
  pub events : List Named
  pub now : Choice
  pub next : Choice

-- The journals keep the durable events, behind the one base or behind the other.
abbrev pub HaveDurable : Basis → List ℕ → List ℕ → Type 0
HaveDurable basis one other =
    HaveJournals basis.base basis.events one other
    ⊎ HaveJournals basis.next_base (behind basis.base basis.next_base basis.events) one other

-- They keep the durable events or, in doubt, the pending ones too. A commit that failed gave nothing up, so these are
-- behind the base.
abbrev pub HaveEvents : Basis → (pending : List Named) → (in_doubt : Bool) → List ℕ → List ℕ → Type 0
HaveEvents basis pending in_doubt one other =
    HaveDurable basis one other ⊎ ((in_doubt ≡ true) × HaveJournals basis.base (basis.events ++ pending) one other)

abbrev pub HasEitherRoots : Basis → List ℕ → List ℕ → Type 0
HasEitherRoots basis one other = HasRoots basis.now one other ⊎ HasRoots basis.next one other

abbrev pub HasBothSlots : Basis → List ℕ → Type 0
HasBothSlots basis slots = HasSlots basis.now slots × HasSlots basis.next slots

-- With either checkpoint, the durable events give this content, and either checkpoint counts the events up to the next
-- base.
pub record GivesDurable (basis : Basis) (durable : Content) : Type 0 where
  pub now : Gives basis.now.checkpoint basis.base basis.events durable
  pub next : Gives basis.next.checkpoint basis.base basis.events durable
  pub order : basis.base ≤ basis.next_base
  pub counted_now : basis.next_base ≤ count_of basis.now.checkpoint
  pub counted_next : basis.next_base ≤ count_of basis.next.checkpoint

-- The journals, the roots and the slots of an image, each kind on its own.
pub record HasParts (basis : Basis) (pending : List Named) (in_doubt : Bool) (image : Image) : Type 0 where
  pub journals : HaveEvents basis pending in_doubt image.journal0 image.journal1
  pub roots : HasEitherRoots basis image.root0 image.root1
  pub slots : HasBothSlots basis image.slots

-- The image has the durable content or, in doubt, the live one.
abbrev pub Stands : Content → Content → Bool → Image → Type 0
Stands durable live in_doubt image = HasContent image durable ⊎ ((in_doubt ≡ true) × HasContent image live)

-- If each part of an image on its own fits the basis, the image has the durable content or, in doubt, the live one.
abbrev pub JointImages : Type 0
JointImages =
    (basis : Basis) (pending : List Named) (in_doubt : Bool) (durable live : Content) (image : Image) → GivesDurable basis durable → followed durable pending ≡ Some live
    → HasParts basis pending in_doubt image → Stands durable live in_doubt image
