-- What a store of the former form and a migrated one have in common.
use Rattle.std.specs.Prelude.{◌≡◌, ◌≤◌, ◌↔◌, ℕ, List, ◌++◌, length}
use Rattle.hg_model.specs.declared.event.Named.{Named}
use Rattle.hg_model.specs.Contents.{Content}
use Rattle.hg_gate.specs.Batches.{IsClosed, base_front, header}
use Rattle.hg_gate.specs.declared.based.TheConstants.{MAX_BASE}
use Rattle.hg_journal.specs.Journal.{IsJournal}
use Rattle.hg_journals.specs.Journals.{HaveJournals}
use Rattle.hg_contents.specs.Images as former
use Rattle.hg_images.specs.Images as images

-- The former journal has these events, with numbers that a base may have.
abbrev pub HasEvents : (journal : List ℕ) → List Named → Type 0
HasEvents journal events = IsJournal journal events × (length events ≤ MAX_BASE)

-- The events of a former journal are those that its batches behind the base 0 keep, beside a spare file.
abbrev pub EventsStay : Type 0
EventsStay =
    (batches spare : List ℕ) (events : List Named) → IsClosed spare
    → HasEvents (header ++ batches) events ↔ HaveJournals 0 events (base_front 0 ++ batches) spare

-- the bytes of a former store with this journal, and with the slots and the roots of an image of five devices
abbrev pub former_image : (journal : List ℕ) → images.Image → former.Image
former_image journal image = record { journal = journal; slots = image.slots; root0 = image.root0; root1 = image.root1 }

-- The image has exactly the contents that the former store with this journal has.
abbrev pub HasFormerContents : (journal : List ℕ) → images.Image → Type 0
HasFormerContents journal image = (c : Content) → former.HasContent (former_image journal image) c ↔ images.HasContent image c

-- So it is with the batches behind the base 0, beside a spare file.
abbrev pub ContentsStay : Type 0
ContentsStay =
    (batches : List ℕ) (image : images.Image) → image.journal0 ≡ base_front 0 ++ batches → IsClosed image.journal1
    → HasFormerContents (header ++ batches) image

-- If more bytes stand behind them, the image has the content of the former store.
abbrev pub ContentIsKept : Type 0
ContentIsKept =
    (batches more : List ℕ) (image : images.Image) (c : Content) → image.journal0 ≡ (base_front 0 ++ batches) ++ more → IsClosed image.journal1
    → former.HasContent (former_image (header ++ batches) image) c → images.HasContent image c
