-- The laws of images and of contents, promised by functions without a body.
use Rattle.std.specs.Prelude.{◌≡◌, ◌<◌, ◌^◌, ◌++◌, ◌↔◌, List, length, Option, Some}
use Rattle.hg_model.specs.declared.event.Named.{Named}
use Rattle.hg_model.specs.Contents.{Content}
use Rattle.hg_model.specs.Change.{empty_content, followed}
use Rattle.hg_gate.specs.Batches.{IsClosed}
use Rattle.hg_journal.specs.Journal.{IsJournal}
use Rattle.hg_root.specs.Checkpoints.{Checkpoint}
use Rattle.hg_contents.specs.Images.{Gives, HasContent, Image, content_of}

-- An image whose root files are shorter than 2^64 bytes has one content.
abbrev pub ContentIsUnique : Type 0
ContentIsUnique = (image : Image) (c d : Content) → length image.root0 < 2 ^ 64 → length image.root1 < 2 ^ 64 → HasContent image c → HasContent image d → c ≡ d

-- The events of the journal, each accepted after those before it, give the content.
abbrev pub HasEventsAlone : Image → Content → Type 0
HasEventsAlone image c = (events : List Named) × IsJournal image.journal events × (followed empty_content events ≡ Some c)

-- If both root files are closed, an image has the content of its journal's events, and no other.
abbrev pub ClosedRootsAreAsBefore : Type 0
ClosedRootsAreAsBefore = (image : Image) (c : Content) → IsClosed image.root0 → IsClosed image.root1 → HasContent image c ↔ HasEventsAlone image c

-- If a checkpoint has the content that the journal's events so far give, then with any more events it gives the same as the
-- former checkpoint or the empty content.
abbrev pub CheckpointGivesTheSame : Type 0
CheckpointGivesTheSame =
    (former : Option Checkpoint) (next : Checkpoint) (events more : List Named) (c : Content) → Gives former events (content_of next)
    → (Gives former (events ++ more) c ↔ Gives (Some next) (events ++ more) c)
