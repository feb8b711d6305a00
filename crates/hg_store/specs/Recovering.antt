-- The answers when a store is made or recovered.
use Rattle.std.specs.Prelude.{◌≡◌, ◌≢◌, ◌⊎◌, ◌+◌, ◌<◌, ℕ, List, [], ◌∷◌, Option, IsTrue, Result, Ok, Err, IfOk, IfErr}
use Rattle.hg_model.specs.declared.event.Named.{Named}
use Rattle.hg_model.specs.declared.verdict.Refusal.{Refusal}
use Rattle.hg_model.specs.declared.verdict.Refusal.TheVariants.{Damaged, FullSets, FullSlots, DeviceFault, OutOfMemory}
use Rattle.hg_model.specs.Contents.{Content}
use Rattle.hg_sets.specs.Interning.{Table}
use Rattle.hg_disk.specs.declared.disk.Disk as disk
use Rattle.hg_disk.specs.Calls.{CallsAtMost}
use Rattle.hg_disk.specs.State.{IsImage, counted, settled}
use Rattle.hg_disk.specs.Moments.{LeavesOnly}
use Rattle.hg_gate.specs.Batches.{closed_gate}
use Rattle.hg_journal.specs.Journal.{after_refusal}
use Rattle.hg_detect.specs.Shown as detect
use Rattle.hg_journals.specs.Journals.{HaveJournals}
use Rattle.hg_journals.specs.Making.{first_bytes, spare_bytes}
use Rattle.hg_journals.specs.Pairs as pairs
use Rattle.hg_journals.specs.declared.pair.JournalPair.{JournalPair}
use Rattle.hg_pool.specs.Kept.{HasSome}
use Rattle.hg_pool.specs.Maps as pools
use Rattle.hg_pool.specs.Shown as pool
use Rattle.hg_root.specs.Checkpoints.{Checkpoint, HasCheckpoint, root_of}
use Rattle.hg_root.specs.Finding.{number_in}
use Rattle.hg_root.specs.Pairs as roots
use Rattle.hg_root.specs.declared.pair.RootPair.{RootPair}
use Rattle.hg_contents.specs.Choices.{Choice}
use Rattle.hg_contents.specs.Images.{start_of}
use Rattle.hg_images.specs.Choices.{Basis}
use Rattle.hg_images.specs.Images.{Gives, HasContent, Image, count_of}
use Rattle.hg_images.specs.Steps.{IsAtRest}
use Rattle.hg_checkpoint.specs.declared.checkpointer.Checkpointer.{Checkpointer}
use Rattle.hg_checkpoint.specs.Standing.{Stands}
use Rattle.hg_store.specs.Shown.{ShownStore}
use Rattle.hg_recovery.specs.Answers.{CountedBy, IfFullSlots}
use Rattle.hg_recovery.specs.Detectors.{IsReady}
use Rattle.hg_recovery.specs.Filling.{HasSets, IsTooSmall}
use Rattle.hg_recovery.specs.Rooting.{HasMoreSets, HasRootThat, IsStarted, NamesAbove, table_at}
use Rattle.hg_store.specs.declared.create.CreateFault.{CreateFault}
use Rattle.hg_store.specs.declared.create.CreateFault.TheVariants.{NotEmpty, Refused}
use Rattle.hg_store.specs.declared.devices.Caps.{Caps}
use Rattle.hg_store.specs.declared.devices.Devices.{Devices}
use Rattle.hg_store.specs.Images.{FailuresBecome, FilesReadSame, failures_of, read_of}
use Rattle.hg_store.specs.Store.{IsFresh}

-- what the devices of a new store read: an open journal with the base 0 and no events, a spare one, no slot, and closed
-- roots
abbrev pub empty_image : Image
empty_image = record { journal0 = first_bytes; journal1 = spare_bytes; slots = []; root0 = closed_gate ∷ []; root1 = closed_gate ∷ [] }

-- no device has a byte
pub record IsEmpty {D : Type 0} (g : disk.Ghosts D) (devices : Devices D) : Type 0 where
  pub journal0 : (g.state devices.journal0).contents ≡ []
  pub journal1 : (g.state devices.journal1).contents ≡ []
  pub slots : (g.state devices.slots).contents ≡ []
  pub root0 : (g.state devices.root0).contents ≡ []
  pub root1 : (g.state devices.root1).contents ≡ []

-- Each device has what it read before, durable.
pub record Settled {D : Type 0} (g : disk.Ghosts D) (old new : Devices D) : Type 0 where
  pub journal0 : g.state new.journal0 ≡ settled (g.state old.journal0).contents
  pub journal1 : g.state new.journal1 ≡ settled (g.state old.journal1).contents
  pub slots : g.state new.slots ≡ settled (g.state old.slots).contents
  pub root0 : g.state new.root0 ≡ settled (g.state old.root0).contents
  pub root1 : g.state new.root1 ≡ settled (g.state old.root1).contents

-- Each image of a device, from one moment to another, is one that it had at the first.
pub record Stay {D : Type 0} (g : disk.Ghosts D) (old new : Devices D) : Type 0 where
  pub journal0 : LeavesOnly g old.journal0 new.journal0 (IsImage (g.state old.journal0))
  pub journal1 : LeavesOnly g old.journal1 new.journal1 (IsImage (g.state old.journal1))
  pub slots : LeavesOnly g old.slots new.slots (IsImage (g.state old.slots))
  pub root0 : LeavesOnly g old.root0 new.root0 (IsImage (g.state old.root0))
  pub root1 : LeavesOnly g old.root1 new.root1 (IsImage (g.state old.root1))

-- The store has the frames and the slots that were asked for, and over honest devices room for the sets that were.
pub record HasLimits {D : Type 0} (g : disk.Ghosts D) (most : ℕ) (caps : Caps) (s : ShownStore D) : Type 0 where
  pub frames : s.detector.words.most_frames ≡ most
  pub slots : s.detector.words.slots ≡ caps.slots
  pub sets : IsTrue g.is_honest → s.detector.sets.limit ≡ caps.sets

-- The table of sets is the one that the events of the journals make from that of the newest root, or from the first one.
pub record HasTable (cap : ℕ) (image : Image) (c : Content) (table : Table) : Type 0 where
  pub checkpoint : Option Checkpoint
  pub stands : HasCheckpoint checkpoint image.root0 image.root1 image.slots
  pub base : ℕ
  pub events : List Named
  pub journals : HaveJournals base events image.journal0 image.journal1
  pub sets : HasSets (start_of checkpoint) (table_at cap (root_of checkpoint)) base events c table

-- A table of sets has no room for the sets of the events that the journals keep behind the newest checkpoint.
pub record AsksTooMuch (cap : ℕ) (image : Image) : Type 0 where
  pub checkpoint : Option Checkpoint
  pub stands : HasCheckpoint checkpoint image.root0 image.root1 image.slots
  pub base : ℕ
  pub events : List Named
  pub journals : HaveJournals base events image.journal0 image.journal1
  pub small : IsTooSmall (start_of checkpoint) (table_at cap (root_of checkpoint)) base events

-- A table of `cap` sets is too small for an image: its newest root has more sets, or the events behind it ask for one too
-- many.
abbrev pub HasFewSets : ℕ → Image → Type 0
HasFewSets cap image = HasMoreSets cap image.root0 image.root1 ⊎ AsksTooMuch cap image

-- The parts of a new store have this basis: the journals keep its events, the roots and the slots have its checkpoint, and
-- the detector has the content that they give.
pub record IsBased {D : Type 0} (g : disk.Ghosts D) (journals : JournalPair D g) (d : detect.ShownDetector (pool.ShownPool D)) (c : Checkpointer D g) (counted : ℕ) (basis : Basis) : Type 0 where
  pub rests : IsAtRest basis
  pub keeps : pairs.Keeps journals basis.base basis.events
  pub stands : Stands g c d.words basis.now.checkpoint basis.now.former
  pub number : c.number ≡ number_in (root_of basis.now.checkpoint)
  pub counts : counted ≡ count_of basis.now.checkpoint
  pub gives : Gives basis.now.checkpoint basis.base basis.events (detect.content (pools.live g) d)

-- The device calls of making a store, at most: a write and a sync of each journal and of each root, and none of the slots.
pub record MakingCalls {D : Type 0} (g : disk.Ghosts D) (old new : Devices D) : Type 0 where
  pub journal0 : CallsAtMost g 2 old.journal0 new.journal0
  pub journal1 : CallsAtMost g 2 old.journal1 new.journal1
  pub slots : new.slots ≡ old.slots
  pub root0 : CallsAtMost g 2 old.root0 new.root0
  pub root1 : CallsAtMost g 2 old.root1 new.root1

-- how many calls of devices have failed after a making with this fault; n had failed before it
abbrev pub after_create_fault : CreateFault → ℕ → ℕ
after_create_fault NotEmpty n = n
after_create_fault (Refused refusal) n = after_refusal refusal n

abbrev pub tells_create : {D : Type 0} → Result (ShownStore D) (CreateFault × Devices D) → ℕ → ℕ
tells_create (Ok store) n = n
tells_create (Err refused) n = after_create_fault refused.0 n

module _ {D : Type 0} where
  -- the devices after a making, or a recovery, with this answer
  abbrev pub made_of : {E : Type 0} → Result (ShownStore D) (E × Devices D) → Devices D
  made_of (Ok s) = s.devices
  made_of (Err e) = e.1

  abbrev pub CountsRecovered : Result (ShownStore D) (Refusal × Devices D) → ℕ → ℕ → Type 0
  CountsRecovered (Ok s) old new = new ≡ old
  CountsRecovered (Err e) old new = CountedBy e.0 old new

-- the parts that a store is made of, or that are handed back
abbrev pub Caught : (D : Type 0) → disk.Ghosts D → Type 0
Caught D g = Result (ShownStore D) (Refusal × JournalPair D g × detect.ShownDetector (pool.ShownPool D) × RootPair D)

module _ {D : Type 0} {g : disk.Ghosts D} where
  abbrev pub journal0_after : Caught D g → D
  journal0_after (Ok s) = s.devices.journal0
  journal0_after (Err e) = pairs.first_of e.1

  abbrev pub journal1_after : Caught D g → D
  journal1_after (Ok s) = s.devices.journal1
  journal1_after (Err e) = pairs.second_of e.1

  abbrev pub words_after : Caught D g → pool.ShownPool D
  words_after (Ok s) = s.detector.words
  words_after (Err e) = e.2.words

  abbrev pub first_after : Caught D g → D
  first_after (Ok s) = s.devices.root0
  first_after (Err e) = roots.first_of e.3

  abbrev pub second_after : Caught D g → D
  second_after (Ok s) = s.devices.root1
  second_after (Err e) = roots.second_of e.3

  abbrev pub CountsCaught : Caught D g → ℕ → ℕ → Type 0
  CountsCaught (Ok s) old new = new ≡ old
  CountsCaught (Err e) old new = CountedBy e.0 old new

-- The refusals of a making.
abbrev pub IsOfMaking : CreateFault → Type 0
IsOfMaking fault = (fault ≡ NotEmpty) ⊎ ((fault ≡ Refused DeviceFault) ⊎ (fault ≡ Refused OutOfMemory))

-- The image has no content.
abbrev pub HasNoContent : Image → Type 0
HasNoContent image = (c : Content) → ¬ HasContent image c

-- the journals and the roots of a store of no events, or the devices that are handed back
abbrev pub NewFilesOr : (D : Type 0) → disk.Ghosts D → Type 0
NewFilesOr D g = Result (JournalPair D g × RootPair D) (D × D × D × D)

module _ {D : Type 0} {g : disk.Ghosts D} where
  -- the devices of a store of these parts
  abbrev pub joined : JournalPair D g → pool.ShownPool D → RootPair D → Devices D
  joined journals words pair = record {
    journal0 = pairs.first_of journals;
    journal1 = pairs.second_of journals;
    slots = pools.disk_of words;
    root0 = roots.first_of pair;
    root1 = roots.second_of pair;
  }

  -- the devices of new files
  abbrev pub journal0_in : NewFilesOr D g → D
  journal0_in (Ok files) = pairs.first_of files.0
  journal0_in (Err disks) = disks.0

  abbrev pub journal1_in : NewFilesOr D g → D
  journal1_in (Ok files) = pairs.second_of files.0
  journal1_in (Err disks) = disks.1

  abbrev pub first_in : NewFilesOr D g → D
  first_in (Ok files) = roots.first_of files.1
  first_in (Err disks) = disks.2

  abbrev pub second_in : NewFilesOr D g → D
  second_in (Ok files) = roots.second_of files.1
  second_in (Err disks) = disks.3

  -- One call of them failed, or none.
  abbrev pub CountsNewFiles : (journal0 journal1 root0 root1 : D) → NewFilesOr D g → Type 0
  CountsNewFiles journal0 journal1 root0 root1 result =
      g.failures (journal0_in result) + g.failures (journal1_in result) + g.failures (first_in result) + g.failures (second_in result)
      ≡ counted result (g.failures journal0 + g.failures journal1 + g.failures root0 + g.failures root1)

-- Making
module _ {D : Type 0} (g : disk.Ghosts D) where
  -- The devices have bytes, and are handed back as they were.
  abbrev pub WereNotEmpty : (devices back : Devices D) → Type 0
  WereNotEmpty devices back = ¬ IsEmpty g devices × (back ≡ devices)

  -- The parts of a store have a basis, and its detector can go on.
  abbrev pub MayBeMade : JournalPair D g → detect.ShownDetector (pool.ShownPool D) → Checkpointer D g → ℕ → Type 0
  MayBeMade journals d c counted = (basis : Basis) × IsBased g journals d c counted basis × IsReady g d

  -- The store that is made of parts with a basis is fresh, with the content of the detector.
  abbrev pub IsFreshOf : JournalPair D g → detect.ShownDetector (pool.ShownPool D) → Checkpointer D g → ℕ → ShownStore D → Type 0
  IsFreshOf journals d c counted s = (basis : Basis) → IsBased g journals d c counted basis → IsFresh g s (detect.content (pools.live g) d)

  abbrev pub CountsMaking : Devices D → Result (ShownStore D) (CreateFault × Devices D) → Type 0
  CountsMaking devices result = FailuresBecome g devices (made_of result) (tells_create result)

-- Recovering
module _ {D : Type 0} (g : disk.Ghosts D) where
  -- The store is fresh, with a content that the devices had.
  abbrev pub IsRecovered : Devices D → ShownStore D → Type 0
  IsRecovered devices s = (c : Content) × HasContent (read_of g devices) c × IsFresh g s c

  -- The table of sets is what that of the newest root became.
  abbrev pub HasItsTable : ℕ → Devices D → ShownStore D → Type 0
  HasItsTable cap devices s = HasTable cap (read_of g devices) (detect.content (pools.live g) s.detector) s.detector.sets

  abbrev pub CountsRecovery : Devices D → Result (ShownStore D) (Refusal × Devices D) → Type 0
  CountsRecovery devices result = CountsRecovered result (failures_of g devices) (failures_of g (made_of result))

  -- Each of so many slots of the device has a page.
  abbrev pub HasFullSlots : ℕ → D → Type 0
  HasFullSlots cap slots = (slot : ℕ) → slot < cap → (page : ℕ) × HasSome slot page (g.state slots).contents

  -- The newest root names a slot at `cap` or above; or each slot below it has a page, once the pages of events were written.
  abbrev pub LacksSlots : ℕ → (old new : Devices D) → Type 0
  LacksSlots cap old new =
      HasRootThat (NamesAbove cap) (g.state old.root0).contents (g.state old.root1).contents ⊎ HasFullSlots cap new.slots

  -- FullSlots is told only where slots are lacking.
  abbrev pub LacksSlotsIfFull : ℕ → Devices D → Result (ShownStore D) (Refusal × Devices D) → Type 0
  LacksSlotsIfFull cap devices result = IfFullSlots result (LacksSlots cap devices (made_of result))

  -- Unless a device failed, a read of each journal, and of each root, gives what it gave.
  abbrev pub ReadsSameOrFault : Devices D → Result (ShownStore D) (Refusal × Devices D) → Type 0
  ReadsSameOrFault devices (Ok s) = FilesReadSame g devices s.devices
  ReadsSameOrFault devices (Err e) = e.0 ≢ DeviceFault → FilesReadSame g devices e.1

-- Following the events of the journals
module _ {D : Type 0} {g : disk.Ghosts D} where
  -- the failed calls of the journals' disks and of the file of slots
  abbrev pub failures_in : JournalPair D g → detect.ShownDetector (pool.ShownPool D) → ℕ
  failures_in journals d = pairs.failures journals + g.failures (pools.disk_of d.words)

  -- The journals keep some events, and the detector stands at a checkpoint, or at none.
  abbrev pub MayCatchUp : JournalPair D g → detect.ShownDetector (pool.ShownPool D) → RootPair D → ℕ → Type 0
  MayCatchUp journals d roots number =
      (base : ℕ) × (events : List Named) × (now : Choice) × pairs.Keeps journals base events × IsStarted g d roots number now

  -- what holds of the events that the journals keep, and of the checkpoint at which the detector stands
  abbrev pub IfStarted : JournalPair D g → detect.ShownDetector (pool.ShownPool D) → RootPair D → ℕ → (Choice → ℕ → List Named → Type 0) → Type 0
  IfStarted journals d roots number P =
      (now : Choice) (base : ℕ) (events : List Named) → IsTrue g.is_honest → IsStarted g d roots number now → pairs.Keeps journals base events → P now base events

  -- The store is fresh, with the content that the kept events lead to from the checkpoint at which the detector stands.
  abbrev pub CatchesUp : JournalPair D g → detect.ShownDetector (pool.ShownPool D) → RootPair D → ℕ → Caught D g → Type 0
  CatchesUp journals d roots number result =
      IfStarted journals d roots number (λ now base events. IfOk result (λ s. (c : Content) × Gives now.checkpoint base events c × IsFresh g s c))

  -- Journals are told as damaged only if their events lead nowhere from that checkpoint.
  abbrev pub CantCatchUp : JournalPair D g → detect.ShownDetector (pool.ShownPool D) → RootPair D → ℕ → Caught D g → Type 0
  CantCatchUp journals d roots number result =
      IfStarted journals d roots number (λ now base events. IfErr result (λ e. e.0 ≡ Damaged → (c : Content) → ¬ Gives now.checkpoint base events c))

  -- The events that are kept took the table of sets of the detector to that of the store.
  abbrev pub FillsSets : JournalPair D g → detect.ShownDetector (pool.ShownPool D) → RootPair D → ℕ → Caught D g → Type 0
  FillsSets journals d roots number result =
      IfStarted journals d roots number
      (λ now base events. IfOk result (λ s. HasSets (detect.content (pools.live g) d) d.sets base events (detect.content (pools.live g) s.detector) s.detector.sets))

  -- FullSets is told only if the table of sets is too small for the events that are kept.
  abbrev pub CantFill : JournalPair D g → detect.ShownDetector (pool.ShownPool D) → RootPair D → ℕ → Caught D g → Type 0
  CantFill journals d roots number result =
      IfStarted journals d roots number
      (λ now base events. IfErr result (λ e. e.0 ≡ FullSets → IsTooSmall (detect.content (pools.live g) d) d.sets base events))

  -- FullSlots is told only if each slot of the pool has a page.
  abbrev pub CantTakeSlot : detect.ShownDetector (pool.ShownPool D) → Caught D g → Type 0
  CantTakeSlot d result = IfErr result (λ e. e.0 ≡ FullSlots → HasFullSlots g d.words.slots (pools.disk_of e.2.words))

  abbrev pub CountsCatching : JournalPair D g → detect.ShownDetector (pool.ShownPool D) → Caught D g → Type 0
  CountsCatching journals d result =
      CountsCaught result (failures_in journals d) (g.failures (journal0_after result) + g.failures (journal1_after result) + g.failures (pools.disk_of (words_after result)))
