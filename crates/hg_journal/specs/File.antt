-- A journal file: spare, or a journal with a base.
use Rattle.std.specs.Prelude.{◌≡◌, ◌⊎◌, ◌≤◌, ℕ, false, List, [], ◌∷◌, ◌++◌, Result, Ok, Err, OnOk}
use Rattle.hg_model.specs.declared.event.Named.{Named}
use Rattle.hg_model.specs.declared.verdict.Refusal.{Refusal}
use Rattle.hg_model.specs.declared.verdict.Refusal.TheVariants.{Damaged}
use Rattle.hg_disk.specs.Moments.{Leaves, LeavesOnly}
use Rattle.hg_disk.specs.State.{settled}
use Rattle.hg_disk.specs.declared.disk.Disk as disk
use Rattle.hg_gate.specs.Based as based
use Rattle.hg_gate.specs.Batches.{IsClosed, base_front, closed_gate}
use Rattle.hg_gate.specs.declared.based.TheConstants.{MAX_BASE}
use Rattle.hg_journal.specs.declared.file.Attached.{Attached}
use Rattle.hg_journal.specs.declared.file.Attached.TheVariants as attached
use Rattle.hg_journal.specs.declared.journal.Journal.{Journal}
use Rattle.hg_journal.specs.Journal.{IsJournalBehind, after_refusal}
use Rattle.hg_journal.specs.Reading.{KeepsBehind, OpensBehind, disk_of, is_broken}

-- A file is spare, and has no events; or it has these events, numbered from behind the base on: the base is the number of
-- events before its first.
pub data JournalFile : Type 0 where
  Spare : JournalFile
  Open : (base : ℕ) (events : List Named) → JournalFile

-- The bytes are those of this file. A file is spare if its first byte is a closed gate; an empty file is neither spare nor
-- open.
abbrev pub IsJournalFile : List ℕ → JournalFile → Type 0
IsJournalFile bytes Spare = IsClosed bytes
IsJournalFile bytes (Open base events) = (base ≤ MAX_BASE) × IsJournalBehind (base_front base) bytes events

-- The bytes are those of one file or of the other.
abbrev pub IsEitherFile : (one other : JournalFile) → List ℕ → Type 0
IsEitherFile one other bytes = IsJournalFile bytes one ⊎ IsJournalFile bytes other

-- The bytes are those of no file.
abbrev pub IsNoJournalFile : List ℕ → Type 0
IsNoJournalFile bytes = (file : JournalFile) → ¬ IsJournalFile bytes file

-- If it was refused as damaged, the bytes are those of no file.
abbrev pub IsNoFileIfDamaged : {D : Type 0} → List ℕ → (Refusal × D) → Type 0
IsNoFileIfDamaged bytes refused = refused.0 ≡ Damaged → IsNoJournalFile bytes

module _ {D : Type 0} {g : disk.Ghosts D} where
  -- The journal can be used, and its file is spare, durably.
  abbrev pub IsSpare : Journal D g → Type 0
  IsSpare j = based.IsSpare j.log

  -- Its file is spare, one closed gate, and no call failed since the disk was `before`.
  abbrev pub IsSpareOn : D → Journal D g → Type 0
  IsSpareOn before j = based.IsSpareOn before j.log

  -- It has this base and no events, its file nothing else, and no call failed since the disk was `before`.
  abbrev pub IsNewOn : (base : ℕ) → D → Journal D g → Type 0
  IsNewOn base before j =
      KeepsBehind (base_front base) j [] × (g.state (disk_of j) ≡ settled (base_front base ++ closed_gate ∷ []))
      × (g.failures (disk_of j) ≡ g.failures before)

  -- The file is as the answer says, durably: spare, or a log with this base and some batches. It is not known yet whether
  -- they are records.
  abbrev pub OpensAs : Attached D g → Type 0
  OpensAs (attached.Spare j) = IsSpare j
  OpensAs (attached.Open base j) = (base ≤ MAX_BASE) × (bodies : List (List ℕ)) × OpensBehind (base_front base) j bodies

  abbrev pub works_as : Attached D g → Type 0
  works_as (attached.Spare j) = is_broken j ≡ false
  works_as (attached.Open base j) = is_broken j ≡ false

  -- the disk after a call that finds out what it has, or hands it back
  abbrev pub file_after : Result (Attached D g) (Refusal × D) → D
  file_after (Ok (attached.Spare j)) = disk_of j
  file_after (Ok (attached.Open base j)) = disk_of j
  file_after (Err refused) = refused.1

  -- how many calls of the disk have failed after such a call; n had failed before it
  abbrev pub failures_of_attaching : Result (Attached D g) (Refusal × D) → ℕ → ℕ
  failures_of_attaching (Ok file) n = n
  failures_of_attaching (Err refused) n = after_refusal refused.0 n

  -- Of a spare file a journal with this base is made. It has no events, and its file nothing else;
  abbrev pub OpensSpare : {T E : Type 0} → (base : ℕ) → (old new : Journal D g) → Result T E → Type 0
  OpensSpare base old new result =
      IsSpare old
      → OnOk result (KeepsBehind (base_front base) new [] × (g.state (disk_of new) ≡ settled (base_front base ++ closed_gate ∷ [])))

  -- and each image is that journal.
  abbrev pub OpensDurably : {T E : Type 0} → (base : ℕ) → (old new : Journal D g) → Result T E → Type 0
  OpensDurably base old new result = IsSpare old → OnOk result (Leaves (λ image. IsJournalFile image (Open base [])) (g.state (disk_of new)))

  -- A crash at any moment leaves the spare file spare, or the journal with this base and no events.
  abbrev pub LeavesSpareOrNew : (base : ℕ) → (old new : Journal D g) → Type 0
  LeavesSpareOrNew base old new = IsSpare old → LeavesOnly g (disk_of old) (disk_of new) (IsEitherFile Spare (Open base []))

  -- Of a journal with a base a spare file is made,
  abbrev pub ClosesJournal : {T E : Type 0} → (old new : Journal D g) → Result T E → Type 0
  ClosesJournal old new result =
      (base : ℕ) (events : List Named) → KeepsBehind (base_front base) old events → OnOk result (IsSpare new)

  -- and each image is spare.
  abbrev pub SparesDurably : {T E : Type 0} → (old new : Journal D g) → Result T E → Type 0
  SparesDurably old new result =
      (base : ℕ) (events : List Named) → KeepsBehind (base_front base) old events
      → OnOk result (Leaves (λ image. IsJournalFile image Spare) (g.state (disk_of new)))

  -- A crash at any moment leaves the journal as it was, or the file spare.
  abbrev pub LeavesSpareOrKept : (old new : Journal D g) → Type 0
  LeavesSpareOrKept old new =
      (base : ℕ) (events : List Named) → base ≤ MAX_BASE → KeepsBehind (base_front base) old events
      → LeavesOnly g (disk_of old) (disk_of new) (IsEitherFile Spare (Open base events))
