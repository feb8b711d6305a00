-- The invariant of the parts of a store.
use Rattle.std.specs.Prelude.{◌≡◌, ◌≤◌, ◌+◌, ℕ, List, Bool, true, false, IsTrue, length, All}
use Rattle.hg_model.specs.declared.event.Named.{Named}
use Rattle.hg_cells.specs.declared.cell.Cell.{Cell}
use Rattle.hg_detect.specs.Engine.{AtPresent}
use Rattle.hg_detect.specs.Shown as detect
use Rattle.hg_disk.specs.declared.disk.Disk as disk
use Rattle.hg_gate.specs.declared.based.TheConstants.{MAX_BASE}
use Rattle.hg_journals.specs.declared.pair.JournalPair.{JournalPair}
use Rattle.hg_journals.specs.Pairs as pairs
use Rattle.hg_pool.specs.Kept.{IsFaithful}
use Rattle.hg_pool.specs.Maps as pools
use Rattle.hg_pool.specs.OfWords.{MayBring}
use Rattle.hg_pool.specs.Shown as pool
use Rattle.hg_root.specs.Checkpoints.{Checkpoint, root_of}
use Rattle.hg_root.specs.Finding.{number_in}
use Rattle.hg_root.specs.Grammar.{SetFits}
use Rattle.hg_root.specs.Pairs.{first_of, second_of}
use Rattle.hg_contents.specs.Images.{content_of}
use Rattle.hg_contents.specs.States.{IsLawfulState}
use Rattle.hg_images.specs.Choices.{Basis}
use Rattle.hg_images.specs.Images.{count_of}
use Rattle.hg_images.specs.Steps.{IsAtRest, IsFront}
use Rattle.hg_images.specs.Stores.{KeepsContent}
use Rattle.hg_checkpoint.specs.Capturing.{parts_with}
use Rattle.hg_checkpoint.specs.declared.checkpointer.Checkpointer.{Checkpointer}
use Rattle.hg_checkpoint.specs.declared.phase.Phase.{Phase}
use Rattle.hg_checkpoint.specs.declared.phase.Phase.TheVariants as phase
use Rattle.hg_checkpoint.specs.Standing.{IsDraft, IsNext, Stands}
use Rattle.hg_store.specs.declared.devices.Devices.{Devices}
use Rattle.hg_store.specs.declared.store.TheConstants.{MOST_PENDING}
use Rattle.hg_store.specs.Shown.{ShownStore, Turns, captured, live, saved}
use Rattle.hg_store.specs.Store.{view_of}

-- the parts of a store
pub record Parts (D : Type 0) (g : disk.Ghosts D) : Type 0 where
  pub journals : JournalPair D g
  pub detector : detect.ShownDetector (pool.ShownPool D)
  pub checkpointer : Checkpointer D g
  pub committed : detect.ShownDetector (pool.ShownPool D)
  pub frozen : detect.ShownDetector (pool.ShownPool D)
  pub pending : List Named
  pub durable : ℕ
  pub counted : ℕ
  pub counting : ℕ
  pub is_broken : Bool
  pub in_doubt : Bool

-- from Sealed on
abbrev pub is_rooting : Phase → Bool
is_rooting phase.Idle = false
is_rooting phase.Flushing = false
is_rooting phase.Sealed = true
is_rooting phase.Prepared = true
is_rooting phase.Written = true

module _ {D : Type 0} (g : disk.Ghosts D) where
  abbrev pub devices_of : JournalPair D g → pool.ShownPool D → Checkpointer D g → Devices D
  devices_of pair words checkpointer = record {
    journal0 = pairs.first_of pair;
    journal1 = pairs.second_of pair;
    slots = pools.disk_of words;
    root0 = first_of checkpointer.roots;
    root1 = second_of checkpointer.roots;
  }

  -- what the two journals keep
  abbrev pub turns_of : JournalPair D g → Turns
  turns_of pair = record {
    base = pairs.base_of pair;
    current_base = pairs.newer_base_of pair;
    last = pairs.last_of pair;
    has_spare = pairs.has_spare pair;
    is_turned = pairs.is_turned pair;
  }

  -- what contracts see
  abbrev pub shown_of : Parts D g → ShownStore D
  shown_of s = record {
    devices = devices_of s.journals s.detector.words s.checkpointer;
    detector = s.detector;
    committed = s.committed;
    frozen = s.frozen;
    pending = s.pending;
    durable = s.durable;
    turns = turns_of s.journals;
    counted = s.counted;
    progress = record { phase = s.checkpointer.phase; number = s.checkpointer.number; next = s.checkpointer.next; head = s.checkpointer.head };
    is_broken = s.is_broken;
    in_doubt = s.in_doubt;
  }

  -- A checkpoint of the detector at the freeze is in progress; its words are the frozen map.
  pub record IsFreezing (s : Parts D g) (basis : Basis) : Type 0 where
    pub was : detect.ShownDetector (ℕ → Cell)
    pub content : detect.content (λ map. map) was ≡ captured g (shown_of s)
    pub state : IsLawfulState (detect.content (λ map. map) was)
    pub front : IsFront basis (detect.content (λ map. map) was)
    pub draft : IsDraft g s.checkpointer s.detector.words basis.now.checkpoint (parts_with s.checkpointer.next was) was.words

  -- A checkpoint of the detector at the freeze is in progress, and its pages are durable.
  pub record IsRooting (s : Parts D g) (basis : Basis) : Type 0 where
    pub freezing : IsFreezing s basis
    pub next : Checkpoint
    pub is_next : IsNext g s.checkpointer s.detector.words basis.now.checkpoint next
    pub content : content_of next ≡ detect.content (λ map. map) freezing.was

  abbrev pub IsInProgress : Phase → Parts D g → Basis → Type 0
  IsInProgress phase.Idle s basis = Unit {0}
  IsInProgress phase.Flushing s basis = IsFreezing s basis
  IsInProgress phase.Sealed s basis = IsRooting s basis
  IsInProgress phase.Prepared s basis = IsRooting s basis
  IsInProgress phase.Written s basis = IsRooting s basis

  -- A store that is not broken: its journals keep the durable events, and its roots and slots have the newest checkpoint.
  pub record IsWorking (s : Parts D g) (basis : Basis) : Type 0 where
    pub certain : s.in_doubt ≡ false
    pub rests : IsAtRest basis
    pub journals : pairs.Keeps s.journals basis.base basis.events
    pub stands : Stands g s.checkpointer s.detector.words basis.now.checkpoint basis.now.former
    pub number : s.checkpointer.number ≡ number_in (root_of basis.now.checkpoint)
    pub counted : s.counted ≡ count_of basis.now.checkpoint
    pub progress : IsInProgress s.checkpointer.phase s basis

  -- A fact on each kind of device, for the durable content.
  pub record Standing (s : Parts D g) (basis : Basis) : Type 0 where
    pub keeps : KeepsContent basis (view_of g (shown_of s)) (saved g (shown_of s))
    pub faithful : AtPresent (IsFaithful g) s.detector
    pub state : IsLawfulState (live g (shown_of s))
    pub spelled : All SetFits s.detector.sets.sets
    pub works : s.is_broken ≡ false → IsWorking s basis

  -- The detector is ready for events, there is room for all events that may be pending, and if the store works, so do its
  -- parts, and the journals have numbers for these events. `counting` is the count at the last freeze. Over honest devices the
  -- store stands for a durable content.
  pub record IsSound (s : Parts D g) (pending_room : ℕ) : Type 0 where
    pub lawful : AtPresent MayBring s.detector
    pub few : length s.pending ≤ MOST_PENDING
    pub room : MOST_PENDING ≤ pending_room
    pub journals : s.is_broken ≡ false → pairs.is_broken s.journals ≡ false
    pub fits : s.is_broken ≡ false → pairs.last_of s.journals + length s.pending ≤ MAX_BASE
    pub counting : s.counting ≡ s.frozen.parts.events
    pub words : s.is_broken ≡ false → pools.is_broken s.detector.words ≡ false
    pub checkpointer : s.is_broken ≡ false → s.checkpointer.is_broken ≡ false
    pub sealed : is_rooting s.checkpointer.phase ≡ true → IsTrue s.detector.words.is_sealed
    pub stands : IsTrue g.is_honest → (basis : Basis) × Standing s basis
