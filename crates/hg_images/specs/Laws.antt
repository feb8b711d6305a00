-- The laws of images and of contents, promised by functions without a body.
use Rattle.std.specs.Prelude.{◌≡◌, ◌<◌, ◌≤◌, ◌+◌, ◌^◌, ◌++◌, ◌↔◌, ℕ, List, length, Option, Some}
use Rattle.hg_model.specs.declared.event.Named.{Named}
use Rattle.hg_model.specs.Contents.{Content}
use Rattle.hg_model.specs.Change.{empty_content, followed}
use Rattle.hg_gate.specs.Batches.{IsClosed}
use Rattle.hg_journals.specs.Journals.{HaveAllOrBehind, HaveJournals, behind}
use Rattle.hg_root.specs.Checkpoints.{Checkpoint}
use Rattle.hg_contents.specs.Images.{content_of}
use Rattle.hg_images.specs.Images.{Gives, HasContent, HasJournals, HasNewest, HasNoContent, HaveSameContent, Image, count_of, with_journals}

-- The root files are shorter than 2^64 bytes.
abbrev pub HasShortRoots : Image → Type 0
HasShortRoots image = (length image.root0 < 2 ^ 64) × (length image.root1 < 2 ^ 64)

-- An image whose root files are shorter than 2^64 bytes has one content.
abbrev pub ContentIsUnique : Type 0
ContentIsUnique = (image : Image) (c d : Content) → HasShortRoots image → HasContent image c → HasContent image d → c ≡ d

-- The content of an image counts the events up to the last one that its journals keep.
abbrev pub ContentsCountTheirEvents : Type 0
ContentsCountTheirEvents = (image : Image) (base : ℕ) (events : List Named) (c : Content) → HasJournals base events image → HasContent image c → c.events ≡ base + length events

-- no root is open
abbrev pub HasClosedRoots : Image → Type 0
HasClosedRoots image = IsClosed image.root0 × IsClosed image.root1

-- The journals keep all events from the first on, and these give the content, each accepted after those before it.
abbrev pub HasEventsAlone : Image → Content → Type 0
HasEventsAlone image c = (events : List Named) × HasJournals 0 events image × (followed empty_content events ≡ Some c)

-- If no root is open, an image has the content of its journals' events from the first on, and no other;
abbrev pub ClosedRootsAreAsBefore : Type 0
ClosedRootsAreAsBefore = (image : Image) (c : Content) → HasClosedRoots image → HasContent image c ↔ HasEventsAlone image c

-- and if these begin later, it has none.
abbrev pub ClosedRootsNeedAllEvents : Type 0
ClosedRootsNeedAllEvents = (image : Image) (base : ℕ) (events : List Named) → HasClosedRoots image → HasJournals base events image → 1 ≤ base → HasNoContent image

-- If a checkpoint has the content that the events so far give, then with any more events it gives the same as the former
-- checkpoint or the empty content.
abbrev pub CheckpointGivesTheSame : Type 0
CheckpointGivesTheSame =
    (former : Option Checkpoint) (next : Checkpoint) (base : ℕ) (events more : List Named) (c : Content) → Gives former base events (content_of next)
    → (Gives former base (events ++ more) c ↔ Gives (Some next) base (events ++ more) c)

-- The number is that of the base, or of an event behind it.
abbrev pub IsKeptNumber : (base : ℕ) → List Named → (number : ℕ) → Type 0
IsKeptNumber base events number = (base ≤ number) × (number ≤ base + length events)

-- Giving up events that a checkpoint counts changes nothing: the others, behind the number of the last one of these, give
-- the same,
abbrev pub GivingUpGivesTheSame : Type 0
GivingUpGivesTheSame =
    (checkpoint : Option Checkpoint) (base next : ℕ) (events : List Named) (c : Content) → IsKeptNumber base events next → next ≤ count_of checkpoint
    → (Gives checkpoint base events c ↔ Gives checkpoint next (behind base next events) c)

-- and so an image has the same content whether its journals keep all events or those behind a base that its newest open
-- root reaches.
abbrev pub GivingUpKeepsContent : Type 0
GivingUpKeepsContent =
    (image : Image) (one other : List ℕ) (checkpoint : Option Checkpoint) (base next : ℕ) (events : List Named) → HasShortRoots image → HasNewest checkpoint image
    → HasJournals base events image → IsKeptNumber base events next → HaveAllOrBehind (count_of checkpoint) base next events one other
    → HaveSameContent image (with_journals image one other)

-- A turn changes nothing: journals that keep the same events behind the same base give the same content.
abbrev pub TurnsChangeNothing : Type 0
TurnsChangeNothing =
    (image : Image) (one other : List ℕ) (base : ℕ) (events : List Named) → HasJournals base events image → HaveJournals base events one other → HaveSameContent image (with_journals image one other)

-- If the base is above what the newest open root counts, the image has no content.
abbrev pub BasesAboveTheRootHaveNoContent : Type 0
BasesAboveTheRootHaveNoContent =
    (image : Image) (checkpoint : Option Checkpoint) (base : ℕ) (events : List Named) → HasShortRoots image → HasNewest checkpoint image → HasJournals base events image
    → count_of checkpoint < base → HasNoContent image

-- There are an image with a content, and journals that gave up events by the count of this content, as if a root of it were
-- open: with these the image has no content.
pub record LosesContent : Type 0 where
  pub image : Image
  pub content : Content
  pub has : HasContent image content
  pub next : ℕ
  pub one : List ℕ
  pub other : List ℕ
  pub events : List Named
  pub keeps : HasJournals 0 events image
  pub gave_up : HaveAllOrBehind content.events 0 next events one other
  pub lost : HasNoContent (with_journals image one other)
