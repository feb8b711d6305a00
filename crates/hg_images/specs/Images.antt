-- What a crash may leave of the five devices of a store, and the content that it gives.
use Rattle.std.specs.Prelude.{◌≡◌, ◌≤◌, ◌+◌, ◌↔◌, ℕ, List, length, Option, Some}
use Rattle.hg_model.specs.declared.event.Named.{Named}
use Rattle.hg_model.specs.Contents.{Content}
use Rattle.hg_model.specs.Change.{followed}
use Rattle.hg_journals.specs.Journals.{HaveJournals, behind}
use Rattle.hg_root.specs.Checkpoints.{Checkpoint, HasCheckpoint}
use Rattle.hg_contents.specs.Images.{start_of}

-- the bytes of each device
pub record Image : Type 0 where
  pub journal0 : List ℕ
  pub journal1 : List ℕ
  pub slots : List ℕ
  pub root0 : List ℕ
  pub root1 : List ℕ

-- The events have the numbers behind the base. The first content counts all events up to the base, and no more than there
-- are; those behind its count lead from it to the last content.
pub record LeadFrom (start : Content) (base : ℕ) (events : List Named) (last : Content) : Type 0 where
  pub reaches : base ≤ start.events
  pub enough : start.events ≤ base + length events
  pub leads : followed start (behind base start.events events) ≡ Some last

-- The checkpoint, or none, and the events that journals keep behind a base give this content.
abbrev pub Gives : Option Checkpoint → (base : ℕ) → List Named → Content → Type 0
Gives checkpoint base events c = LeadFrom (start_of checkpoint) base events c

-- how many events the checkpoint counts: none without a checkpoint
abbrev pub count_of : Option Checkpoint → ℕ
count_of checkpoint = (start_of checkpoint).events

-- This is the image's newest checkpoint, or it has none.
abbrev pub HasNewest : Option Checkpoint → Image → Type 0
HasNewest checkpoint image = HasCheckpoint checkpoint image.root0 image.root1 image.slots

-- Its journals keep these events behind this base.
abbrev pub HasJournals : (base : ℕ) → List Named → Image → Type 0
HasJournals base events image = HaveJournals base events image.journal0 image.journal1

-- The image has this content: that of its newest checkpoint, or the empty one, and of the events behind it that both
-- journals keep, each accepted after those before it.
pub record HasContent (image : Image) (c : Content) : Type 0 where
  pub checkpoint : Option Checkpoint
  pub stands : HasNewest checkpoint image
  pub base : ℕ
  pub events : List Named
  pub journals : HasJournals base events image
  pub gives : Gives checkpoint base events c

-- It has no content.
abbrev pub HasNoContent : Image → Type 0
HasNoContent image = (c : Content) → ¬ HasContent image c

-- Both have the same content, or none.
abbrev pub HaveSameContent : (image other : Image) → Type 0
HaveSameContent image other = (c : Content) → HasContent image c ↔ HasContent other c

-- the image with these journals
abbrev pub with_journals : Image → (journal0 journal1 : List ℕ) → Image
with_journals image journal0 journal1 = record { journal0 = journal0; journal1 = journal1; slots = image.slots; root0 = image.root0; root1 = image.root1 }
