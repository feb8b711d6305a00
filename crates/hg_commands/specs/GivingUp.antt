-- What the journals of a store keep behind a checkpoint, and what they keep where none is made.
use Rattle.std.specs.Prelude.{◌≡◌, ◌⊎◌, ◌+◌, ◌≤◌, ℕ, true, List, [], length, if◌then◌else◌}
use Rattle.hg_model.specs.declared.event.Named.{Named}
use Rattle.hg_model.specs.Contents.{Content}
use Rattle.hg_disk.specs.declared.disk.Disk as disk
use Rattle.hg_journal.specs.File.{IsJournalFile, Open, Spare}
use Rattle.hg_images.specs.Images.{Image}
use Rattle.hg_images.specs.Stores.{IsLeft}
use Rattle.hg_store.specs.declared.devices.Devices.{Devices}
use Rattle.hg_store.specs.Doing.{SameRoots}
use Rattle.hg_store.specs.Images.{ReadsSame, read_of, states_of}
use Rattle.hg_store.specs.Shown.{ShownStore, Turns, after_turn, is_turn_due, other}
use Rattle.hg_store.specs.Steps.{SameTurn}

-- No root was called, nor the journal that is not the current one, and the journals took no turn.
pub record IsQuiet {D : Type 0} (old new : ShownStore D) : Type 0 where
  pub roots : SameRoots old new
  pub turn : SameTurn old.turns new.turns
  pub other : other new ≡ other old

-- what the journals of a store keep once a turn that is due is taken
abbrev pub turned : {D : Type 0} → ShownStore D → Turns
turned s = if is_turn_due s then after_turn s.turns else s.turns

-- The current journal alone keeps events. If one journal was spare before, it keeps none; else the current one was not changed, and keeps its own.
pub record GivesUp {D : Type 0} (old new : ShownStore D) : Type 0 where
  pub spare : new.turns.has_spare ≡ true
  pub begins : new.turns.current_base ≡ (if old.turns.has_spare then new.turns.last else old.turns.current_base)

-- The image has a spare journal.
abbrev pub HasSpare : Image → Type 0
HasSpare image = IsJournalFile image.journal0 Spare ⊎ IsJournalFile image.journal1 Spare

-- One journal of the image is spare, and the other one keeps these events behind this base.
abbrev pub HasOneJournal : (base : ℕ) → List Named → Image → Type 0
HasOneJournal base events image =
    (IsJournalFile image.journal0 Spare × IsJournalFile image.journal1 (Open base events))
    ⊎ (IsJournalFile image.journal1 Spare × IsJournalFile image.journal0 (Open base events))

module _ {D : Type 0} (g : disk.Ghosts D) where
  -- A checkpoint of this content was made, and the events that it counts were given up, but for those of one journal: in each image of the devices
  -- the other journal is spare. If there was a spare one at first, no event is kept at all.
  pub record GaveUp (old new : Devices D) (c : Content) : Type 0 where
    pub base : ℕ
    pub events : List Named
    pub ends : base + length events ≡ c.events
    pub files : (image : Image) → IsLeft (states_of g new) image → HasOneJournal base events image
    pub all : HasSpare (read_of g old) → events ≡ []

  -- A read of one journal gives what it gave.
  abbrev pub OneReadsSame : Devices D → Devices D → Type 0
  OneReadsSame old new = ReadsSame g old.journal0 new.journal0 ⊎ ReadsSame g old.journal1 new.journal1
