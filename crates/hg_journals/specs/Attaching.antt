-- What is found in a journal file that is read through, and in two of them.
use Rattle.std.specs.Prelude.{◌≡◌, ◌+◌, ◌-◌, ◌<◌, ◌≤◌, ℕ, Bool, false, IsTrue, List, length, Result, Ok, Err, IfOk, IfErr, IsErrOf}
use Rattle.hg_model.specs.declared.event.Named.{Named}
use Rattle.hg_model.specs.declared.verdict.Refusal.{Refusal}
use Rattle.hg_model.specs.declared.verdict.Refusal.TheVariants.{Damaged}
use Rattle.hg_disk.specs.Calls.{CallsAtMost}
use Rattle.hg_disk.specs.declared.disk.Disk as disk
use Rattle.hg_gate.specs.Batches.{base_front}
use Rattle.hg_gate.specs.declared.based.TheConstants.{MAX_BASE}
use Rattle.hg_journal.specs.declared.journal.Journal.{Journal}
use Rattle.hg_journal.specs.File.{IsJournalFile, IsSpare, JournalFile, Open, Spare}
use Rattle.hg_journal.specs.Journal.{IsJournalBehind, after_refusal}
use Rattle.hg_journal.specs.Reading.{KeepsBehind, OpensBehind, is_broken}
use Rattle.hg_journal.specs.Reading as journal
use Rattle.hg_journals.specs.declared.file.OpenFile.{OpenFile}
use Rattle.hg_journals.specs.declared.file.ReadFile.{ReadFile}
use Rattle.hg_journals.specs.declared.file.ReadFile.TheVariants as read
use Rattle.hg_journals.specs.Journals.{HaveNoJournals}
use Rattle.hg_journals.specs.Pairs.{KeepsSome, base_of, last_of}
use Rattle.hg_journals.specs.declared.pair.JournalPair.{JournalPair}

-- at most so many calls of the disk find out what a file is, and what it has
abbrev pub most_calls : List ℕ → ℕ
most_calls bytes = length bytes + (MAX_BASE + 2)

-- No event of the file has a number above the greatest base.
abbrev pub HasFewEvents : JournalFile → Type 0
HasFewEvents Spare = Unit {0}
HasFewEvents (Open base events) = base + length events ≤ MAX_BASE

-- The bytes are those of no such file.
abbrev pub IsNoSuchFile : List ℕ → Type 0
IsNoSuchFile bytes = (file : JournalFile) → IsJournalFile bytes file → HasFewEvents file → ⊥

-- If it was refused as damaged, the bytes are those of no such file.
abbrev pub IsNoneIfDamaged : {D : Type 0} → List ℕ → (Refusal × D) → Type 0
IsNoneIfDamaged bytes refused = refused.0 ≡ Damaged → IsNoSuchFile bytes

module _ {D : Type 0} (g : disk.Ghosts D) where
  -- So many events are counted by a call more than there are, at most;
  abbrev pub IsCounted : (old new : D) → (count : ℕ) → Type 0
  IsCounted old new count = CallsAtMost g (count + 1) old new

  -- and what the file is is found out before, by a call for each byte at most.
  abbrev pub IsReadThrough : (old new : D) → (count : ℕ) → Type 0
  IsReadThrough old new count = CallsAtMost g (length (g.state old).contents + (count + 1)) old new

module _ {D : Type 0} {g : disk.Ghosts D} where
  -- The file has these events behind its base, and the last of them has this number.
  abbrev pub HasUpTo : Journal D g → (base last : ℕ) → Type 0
  HasUpTo j base last = (events : List Named) × KeepsBehind (base_front base) j events × (last ≡ base + length events)

  -- It has some batches behind its base.
  abbrev pub OpensSome : Journal D g → (base : ℕ) → Type 0
  OpensSome j base = (bodies : List (List ℕ)) × OpensBehind (base_front base) j bodies

  -- If the reads were true and the disk has batches behind the base, they have events up to the number that is found,
  abbrev pub FindsLast : {E : Type 0} → (base : ℕ) → (old new : Journal D g) → Result ℕ E → Type 0
  FindsLast base old new result = IsTrue (g.reads_were_true (journal.disk_of new)) → OpensSome old base → IfOk result (HasUpTo new base)

  -- and if it is damaged, they have none, or too many.
  abbrev pub FindsNone : {T : Type 0} → (base : ℕ) → (old new : Journal D g) → Result T Refusal → Type 0
  FindsNone base old new result =
      IsTrue (g.reads_were_true (journal.disk_of new)) → OpensSome old base → IsErrOf result Damaged
      → (events : List Named) → IsJournalBehind (base_front base) (g.state (journal.disk_of old)).contents events → ¬ (base + length events ≤ MAX_BASE)

  -- The second file begins where the first ends, and the first has events.
  abbrev pub GoesOnIn : (former current : OpenFile D g) → Type 0
  GoesOnIn former current = (former.last ≡ current.base) × (former.base < current.base)

  abbrev pub disk_in : ReadFile D g → D
  disk_in (read.Spare j) = journal.disk_of j
  disk_in (read.Open file) = journal.disk_of file.journal

  -- The file works, even if the disk lies.
  abbrev pub works_in : ReadFile D g → Bool
  works_in (read.Spare j) = is_broken j
  works_in (read.Open file) = false

  -- how many events it has
  abbrev pub count_in : ReadFile D g → ℕ
  count_in (read.Spare j) = 0
  count_in (read.Open file) = file.last - file.base

  -- It is spare, durably; or it has events up to the number that was found.
  abbrev pub IsAsRead : ReadFile D g → Type 0
  IsAsRead (read.Spare j) = IsSpare j
  IsAsRead (read.Open file) = HasUpTo file.journal file.base file.last

  abbrev pub file_after : Result (ReadFile D g) (Refusal × D) → D
  file_after (Ok file) = disk_in file
  file_after (Err refused) = refused.1

  -- how many calls of the disk have failed after reading it through; n had failed before
  abbrev pub failures_of_reading : Result (ReadFile D g) (Refusal × D) → ℕ → ℕ
  failures_of_reading (Ok file) n = n
  failures_of_reading (Err refused) n = after_refusal refused.0 n

  -- Two files that were read through: the pair keeps what they have,
  abbrev pub KeepIfRead : (first second : ReadFile D g) → Result (JournalPair D g) (Refusal × D × D) → Type 0
  KeepIfRead first second result = IsAsRead first → IsAsRead second → IfOk result KeepsSome

  -- or they keep nothing together.
  abbrev pub KeepNothingIfRead : {T : Type 0} → (first second : ReadFile D g) → Result T (Refusal × D × D) → Type 0
  KeepNothingIfRead first second result =
      IsAsRead first → IsAsRead second
      → IfErr result (λ _. HaveNoJournals (g.state (disk_in first)).contents (g.state (disk_in second)).contents)

  -- how many events a pair keeps
  abbrev pub count_of : JournalPair D g → ℕ
  count_of p = last_of p - base_of p

  -- The pair has so many as both files.
  abbrev pub CountsBoth : (first second : ReadFile D g) → Result (JournalPair D g) (Refusal × D × D) → Type 0
  CountsBoth first second result = IfOk result (λ p. count_of p ≡ count_in first + count_in second)
