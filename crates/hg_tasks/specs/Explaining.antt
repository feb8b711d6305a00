-- What is explained of a trace text and of a store.
use Rattle.std.specs.Prelude.{◌≡◌, ◌⊎◌, ◌≤◌, ℕ, Bool, true, false, Option, None, Some, [], IsTrue}
use Rattle.hg_model.specs.declared.verdict.Refusal.{Refusal}
use Rattle.hg_model.specs.declared.verdict.Refusal.TheVariants.{Damaged, OutOfMemory}
use Rattle.hg_options.specs.declared.task.Explaining.{Explaining}
use Rattle.hg_options.specs.declared.task.Subject.{Subject}
use Rattle.hg_options.specs.declared.task.Subject.TheVariants.{Word, Race}
use Rattle.hg_check.specs.declared.explain.form.Form.{Form}
use Rattle.hg_check.specs.Explaining as word
use Rattle.hg_check.specs.RaceLife as race
use Rattle.hg_check.specs.Behind as behind
use Rattle.hg_cells.specs.declared.paged.PagedWords.{PagedWords}
use Rattle.hg_detect.specs.declared.detector.Detector.{Detector}
use Rattle.hg_detect.specs.Memory.{content_of}
use Rattle.hg_root.specs.Finding.{WasRead}
use Rattle.hg_recovery.specs.Answers.{CountedBy, IsOfRoots}
use Rattle.hg_saved.specs.Disks.{HasNoneSaved, IsSavedOn, ReadsWereTrue, failures}
use Rattle.hg_saved.specs.Saved.{Stays}
use Rattle.hg_saved.specs.declared.saved.CheckpointDisks.{CheckpointDisks}
use Rattle.hg_store.specs.Recovering.{IsRecovered}
use Rattle.hg_store.specs.Refusals.{IsNotOpened}
use Rattle.hg_store.specs.declared.devices.Devices.{Devices}
use Rattle.hg_streams.specs.Faults.{EndsByFault, IsStreamFault, IsTold, TellsNoFault}
use Rattle.hg_streams.specs.Shown.{Outgoing}
use Rattle.hg_streams.specs.declared.output.Outputs.{Outputs}
use Rattle.hg_streams.specs.declared.streams.Streams.{Streams}
use Rattle.hg_disk.specs.declared.disk.Disk as disk
use Rattle.hg_store.specs.Shown.{ShownStore}
use Rattle.hg_commands.specs.Races.{FindsRace, PrintsNoRace}
use Rattle.hg_tasks.specs.declared.events.EventText.{EventText}
use Rattle.hg_tasks.specs.Taking.{IsBehind, IsFresh}

-- how a life is told: whether each access has a line, and whether lines have numbers
abbrev pub form_of : Bool → Bool → Form
form_of all lines = record { all = all; lines = lines }

-- A fault ended the run, or none was told.
abbrev pub FaultsAre : {R W V : Type 0} → ℕ → Streams R W V → Streams R W V → Type 0
FaultsAre status before after = EndsByFault status before after × TellsNoFault status before after

-- The life of the word that is asked for was told, with the numbers of the text's lines.
abbrev pub IsToldOf : {R W V : Type 0} → Subject → Bool → ℕ → Streams R W V → Streams R W V → Type 0
IsToldOf (Word address) all status before after = word.EndsWell status (word.asked_at address (form_of all true)) before after
IsToldOf (Race number) all status before after = race.EndsWell status number (form_of all true) before after

-- So it is of a trace text; or a fault ended it.
abbrev pub ExplainsText : {R W V : Type 0} → Explaining → ℕ → Streams R W V → Streams R W V → Type 0
ExplainsText explaining status before after = IsToldOf explaining.subject explaining.all status before after × FaultsAre status before after

module _ {D : Type 0} (g : disk.Ghosts D) where
  -- The address is the one that is asked for, or that of the report that the store keeps as that number; there is none where it keeps fewer.
  abbrev pub IsAskedFor : Subject → ShownStore D → Option ℕ → Type 0
  IsAskedFor (Word address) s found = found ≡ Some address
  IsAskedFor (Race number) s found = FindsRace g number s found

module _ {D W V : Type 0} (g : disk.Ghosts D) where
  -- It was printed that the store keeps no such report, with status 2; or a fault of the output or of memory was told.
  abbrev pub SaysNoRace : ℕ → ShownStore D → Outputs W V → Outputs W V → ℕ → Type 0
  SaysNoRace number s before after status =
      ((status ≡ 2) × PrintsNoRace g number s before.output after.output × (after.faults ≡ before.faults))
      ⊎ ((status ≡ 3) × ((r : Refusal) × IsStreamFault r × IsTold before.faults.calls after.faults.calls r))

-- The life of the word at an address was told by the events of a store, of which none was taken before, without numbers of lines; or a fault
-- ended it, and what was written is a front of what was due.
pub record ExplainsEvents {D W V : Type 0} (store : ShownStore D) (address : ℕ) (all : Bool) (output : Outgoing W) (faults : Outgoing V) (result : ℕ × Streams (EventText D) W V) : Type 0 where
  pub before : Streams (EventText D) W V
  pub fresh : IsFresh store before.input.stream
  pub unread : before.input.calls ≡ []
  pub output_is : before.output ≡ output
  pub faults_are : before.faults ≡ faults
  pub told : word.EndsWell result.0 (word.asked_at address (form_of all false)) before result.1
  pub front : word.EndsEarly result.0 (word.asked_at address (form_of all false)) before result.1
  pub ended : FaultsAre result.0 before result.1

-- So it was from the content of a detector on, by the events of a store behind those that the content counts.
pub record ExplainsBehind {D W V : Type 0} (detector : Detector PagedWords) (store : ShownStore D) (address : ℕ) (all : Bool) (output : Outgoing W) (faults : Outgoing V) (result : ℕ × Streams (EventText D) W V) : Type 0 where
  pub before : Streams (EventText D) W V
  pub next : IsBehind (content_of detector).events store before.input.stream
  pub unread : before.input.calls ≡ []
  pub output_is : before.output ≡ output
  pub faults_are : before.faults ≡ faults
  pub told : behind.EndsWell result.0 detector (word.asked_at address (form_of all false)) before result.1
  pub front : behind.EndsEarly result.0 detector (word.asked_at address (form_of all false)) before result.1
  pub ended : FaultsAre result.0 before result.1

-- The devices are these two journals, and these slots and roots.
abbrev pub HasDisks : {D : Type 0} → (journal0 journal1 : D) → CheckpointDisks D → Devices D → Type 0
HasDisks journal0 journal1 disks devices =
    devices ≡ record { journal0 = journal0; journal1 = journal1; slots = disks.slots; root0 = disks.root0; root1 = disks.root1 }

-- the slots and the roots of devices
abbrev pub disks_of : {D : Type 0} → Devices D → CheckpointDisks D
disks_of devices = record { slots = devices.slots; root0 = devices.root0; root1 = devices.root1 }

module _ {D : Type 0} (g : disk.Ghosts D) where
  -- The slots and the roots of the devices were read, and stay as they were; the journals are the same.
  pub record WereRead (devices read : Devices D) : Type 0 where
    pub disks : CheckpointDisks D
    pub slots : Stays g devices.slots disks.slots
    pub first : WasRead g devices.root0 disks.root0
    pub second : WasRead g devices.root1 disks.root1
    pub are : HasDisks devices.journal0 devices.journal1 disks read

  -- The detector has the content of the newest checkpoint of the devices, if the reads of their slots and roots were true, and the store was
  -- recovered of them then.
  pub record IsSavedAndRecovered (devices : Devices D) (detector : Detector PagedWords) (store : ShownStore D) : Type 0 where
    pub read : Devices D
    pub were_read : WereRead devices read
    pub saved : ReadsWereTrue g were_read.disks → IsSavedOn g (disks_of devices) (content_of detector)
    pub recovered : IsTrue g.is_honest → IsRecovered g read store

  -- Why the content of the newest checkpoint was not had. `Damaged`: the devices have no checkpoint, and their roots are not both closed, if their reads were true.
  -- `DeviceFault` exactly if a call failed. Want of memory may be told at any time.
  pub record IsNotSaved (devices left : Devices D) (r : Refusal) : Type 0 where
    pub is : IsOfRoots r
    pub failed : CountedBy r (failures g (disks_of devices)) (failures g (disks_of left))
    pub were_read : WereRead devices left
    pub damaged : ReadsWereTrue g were_read.disks → r ≡ Damaged → HasNoneSaved g (disks_of devices)

  -- It was had, without a failed call, and then the store was not opened.
  pub record IsSavedNotOpened (devices left : Devices D) (r : Refusal) : Type 0 where
    pub read : Devices D
    pub were_read : WereRead devices read
    pub none_failed : failures g (disks_of read) ≡ failures g (disks_of devices)
    pub refused : IsNotOpened g read left r

  -- Why the life of a word could not begin at the newest checkpoint.
  abbrev pub IsNotBegun : (devices left : Devices D) → Refusal → Type 0
  IsNotBegun devices left r = IsNotSaved devices left r ⊎ IsSavedNotOpened devices left r

module _ {D W V : Type 0} (g : disk.Ghosts D) where
  -- The life of the word at the address that is asked for was told, by the events of the store, which keeps them from the first one on.
  pub record TellsOfStore (store : ShownStore D) (explaining : Explaining) (before : Outputs W V) (result : ℕ × Outputs W V) : Type 0 where
    pub whole : store.turns.base ≡ 0
    pub address : ℕ
    pub asked : IsAskedFor g explaining.subject store (Some address)
    pub streams : Streams (EventText D) W V
    pub explains : ExplainsEvents store address explaining.all before.output before.faults (result.0, streams)
    pub left : (result.1.output ≡ streams.output) × (result.1.faults ≡ streams.faults)

  -- The life of the word at an address was told from the content of the newest checkpoint of the devices on, by the events of the store on them.
  pub record TellsOfSaved (devices : Devices D) (address : ℕ) (all : Bool) (before : Outputs W V) (result : ℕ × Outputs W V) : Type 0 where
    pub detector : Detector PagedWords
    pub store : ShownStore D
    pub saved : IsSavedAndRecovered g devices detector store
    pub streams : Streams (EventText D) W V
    pub explains : ExplainsBehind detector store address all before.output before.faults (result.0, streams)
    pub left : (result.1.output ≡ streams.output) × (result.1.faults ≡ streams.faults)

  -- That could not begin, the fault was told, with status 3, and nothing was printed. These devices are left.
  pub record TellsWhyNot (devices : Devices D) (before : Outputs W V) (result : ℕ × Outputs W V) (left : Devices D) : Type 0 where
    pub refusal : Refusal
    pub cause : IsNotBegun g devices left refusal
    pub status : result.0 ≡ 3
    pub told : IsTold before.faults.calls result.1.faults.calls refusal
    pub silent : result.1.output ≡ before.output

  -- It was told; or it could not begin, and then the devices are left.
  abbrev pub ExplainsSaved : Devices D → ℕ → Bool → Outputs W V → ℕ × Outputs W V → Option (Devices D) → Type 0
  ExplainsSaved devices address all before result None = TellsOfSaved devices address all before result
  ExplainsSaved devices address all before result (Some left) = TellsWhyNot devices before result left

  -- The store no longer keeps its first events, and the life of the word at the address that is asked for was told from its newest checkpoint on.
  abbrev pub TellsOfRest : ShownStore D → Explaining → Outputs W V → ℕ × Outputs W V → Type 0
  TellsOfRest store explaining before result =
      (1 ≤ store.turns.base) × ((address : ℕ) × IsAskedFor g explaining.subject store (Some address)
      × ((left : Option (Devices D)) × ExplainsSaved store.devices address explaining.all before result left))

  -- The life was told from the first event on, or from the newest checkpoint on; or the store keeps no such report, and that was printed; or
  -- memory was refused before, which was told.
  abbrev pub ExplainsStore : ShownStore D → Explaining → Outputs W V → ℕ × Outputs W V → Type 0
  ExplainsStore store explaining before result =
      TellsOfStore store explaining before result
      ⊎ (((number : ℕ) × (explaining.subject ≡ Race number) × FindsRace g number store None × SaysNoRace g number store before result.1 result.0)
      ⊎ (TellsOfRest store explaining before result
      ⊎ ((result.0 ≡ 3) × IsTold before.faults.calls result.1.faults.calls OutOfMemory)))
