-- What a pair of journals keeps, and what a crash may leave of its two files.
use Rattle.std.specs.Prelude.{◌≡◌, ◌+◌, ◌≤◌, ℕ, Bool, true, false, ◌&&◌, not, nat_lt, nat_le, IsTrue, List, [], ◌∷◌, ◌++◌, length, Result, Err, MatchBool, IfOk, IfErr, OnOk, OnErr, if◌then◌else◌}
use Rattle.hg_model.specs.declared.event.Named.{Named}
use Rattle.hg_model.specs.declared.verdict.Refusal.{Refusal}
use Rattle.hg_model.specs.declared.verdict.Refusal.TheVariants.{Broken}
use Rattle.hg_disk.specs.Moments.{GoesOn, MayLeave}
use Rattle.hg_disk.specs.State.{settled}
use Rattle.hg_disk.specs.declared.disk.Disk as disk
use Rattle.hg_gate.specs.Batches.{base_front, closed_gate}
use Rattle.hg_journal.specs.declared.journal.Journal.{Journal}
use Rattle.hg_journal.specs.File.{IsSpare}
use Rattle.hg_journal.specs.Journal.{IsBrokenOrDevice, failed_after}
use Rattle.hg_journal.specs.Reading.{KeepsBehind}
use Rattle.hg_journal.specs.Reading as journal
use Rattle.hg_journals.specs.Journals.{HaveAllOrBehind, HaveAllOrNone, HaveJournals, behind}
use Rattle.hg_journals.specs.declared.pair.JournalPair.{JournalPair}

module _ {D : Type 0} {g : disk.Ghosts D} where
  -- the current file, which events are appended to, and the other
  abbrev pub newer : JournalPair D g → D
  newer p = journal.disk_of p.newer

  abbrev pub older : JournalPair D g → D
  older p = journal.disk_of p.older

  -- whether the other file is the second one
  abbrev pub is_turned : JournalPair D g → Bool
  is_turned p = p.is_turned

  -- whether the other file is spare
  abbrev pub has_spare : JournalPair D g → Bool
  has_spare p = p.has_spare

  -- whether a device call of a step failed
  abbrev pub is_broken : JournalPair D g → Bool
  is_broken p = p.is_broken

  -- how many events came before the first kept one, and before the first of the current file, and how many up to the last
  abbrev pub base_of : JournalPair D g → ℕ
  base_of p = p.base

  abbrev pub newer_base_of : JournalPair D g → ℕ
  newer_base_of p = p.newer_base

  abbrev pub last_of : JournalPair D g → ℕ
  last_of p = p.last

  -- the first file and the second one, whichever is the current one
  abbrev pub first_of : JournalPair D g → D
  first_of p = if p.is_turned then newer p else older p

  abbrev pub second_of : JournalPair D g → D
  second_of p = if p.is_turned then older p else newer p

  -- The reads of both files so far were true.
  abbrev pub ReadsWereTrue : JournalPair D g → Type 0
  ReadsWereTrue p = IsTrue (g.reads_were_true (older p)) × IsTrue (g.reads_were_true (newer p))

  -- how many calls of the two disks have failed
  abbrev pub failures : JournalPair D g → ℕ
  failures p = g.failures (first_of p) + g.failures (second_of p)

  -- The other file has no events and is spare; or it has these events behind this base, one at least.
  abbrev pub KeepsFormer : (is_spare : Bool) → Journal D g → (base : ℕ) → (former : List Named) → Type 0
  KeepsFormer true j base former = IsSpare j × (former ≡ [])
  KeepsFormer false j base former = KeepsBehind (base_front base) j former × (1 ≤ length former)

  -- The pair can be used, and keeps these events behind this base, durably: the other file's, and then the current one's.
  pub record Keeps (p : JournalPair D g) (base : ℕ) (events : List Named) : Type 0 where
    pub former : List Named
    pub current : List Named
    pub older : KeepsFormer p.has_spare p.older base former
    pub newer : KeepsBehind (base_front p.newer_base) p.newer current
    pub whole : events ≡ former ++ current
    pub works : p.is_broken ≡ false
    pub begins : p.base ≡ base
    pub turned_at : p.newer_base ≡ base + length former
    pub ends : p.last ≡ base + length events

  -- It keeps some events behind some base.
  abbrev pub KeepsSome : JournalPair D g → Type 0
  KeepsSome p = (base : ℕ) × (events : List Named) × Keeps p base events

-- ---- what a crash leaves

module _ {D : Type 0} (g : disk.Ghosts D) where
  -- Each image of two files from one moment to another, each file by itself, has P.
  pub record EachImage (first0 first1 second0 second1 : D) (P : List ℕ → List ℕ → Type 0) : Type 0 where
    pub first_goes : GoesOn g first0 first1
    pub second_goes : GoesOn g second0 second1
    pub each : (bytes0 bytes1 : List ℕ) → MayLeave g first0 first1 bytes0 → MayLeave g second0 second1 bytes1 → P bytes0 bytes1

module _ {D : Type 0} {g : disk.Ghosts D} where
  -- the same of the files of a pair
  abbrev pub EachPair : (old new : JournalPair D g) → (List ℕ → List ℕ → Type 0) → Type 0
  EachPair old new P = EachImage g (first_of old) (first_of new) (second_of old) (second_of new) P

  -- The bytes that a read gives keep the same events,
  abbrev pub ReadsKept : JournalPair D g → Type 0
  ReadsKept p =
      (base : ℕ) (events : List Named) → Keeps p base events
      → HaveJournals base events (g.state (first_of p)).contents (g.state (second_of p)).contents

  -- and so do those that a crash leaves.
  abbrev pub LeavesKept : JournalPair D g → Type 0
  LeavesKept p = (base : ℕ) (events : List Named) → Keeps p base events → EachPair p p (HaveJournals base events)

  -- ---- the calls

  -- The pair keeps the new events too,
  abbrev pub AddsEvents : {T E : Type 0} → (events : List Named) → (old new : JournalPair D g) → Result T E → Type 0
  AddsEvents events old new result =
      (base : ℕ) (past : List Named) → Keeps old base past → OnOk result (Keeps new base (past ++ events))

  -- and a crash at any moment leaves the events from before, with all the new ones or none.
  abbrev pub LeavesAllOrNone : (events : List Named) → (old new : JournalPair D g) → Type 0
  LeavesAllOrNone events old new =
      (base : ℕ) (past : List Named) → Keeps old base past → EachPair old new (HaveAllOrNone base past events)

  -- The pair keeps what it kept,
  abbrev pub StaysKept : (old new : JournalPair D g) → Type 0
  StaysKept old new = (base : ℕ) (events : List Named) → Keeps old base events → Keeps new base events

  abbrev pub KeepsOnOk : {T E : Type 0} → (old new : JournalPair D g) → Result T E → Type 0
  KeepsOnOk old new result = OnOk result (StaysKept old new)

  -- and a crash at any moment leaves the same.
  abbrev pub LeavesSame : (old new : JournalPair D g) → Type 0
  LeavesSame old new = (base : ℕ) (events : List Named) → Keeps old base events → EachPair old new (HaveJournals base events)

  -- The pair keeps the events of the current file alone, behind its base, or what it kept if the base is the same;
  abbrev pub KeepsBehindBase : {T E : Type 0} → (old new : JournalPair D g) → Result T E → Type 0
  KeepsBehindBase old new result =
      (base : ℕ) (events : List Named) → Keeps old base events
      → OnOk result (Keeps new (base_of new) (behind base (base_of new) events))

  -- and a crash at any moment leaves all events, or those of the current file.
  abbrev pub LeavesAllOrBehind : (count : ℕ) → (old new : JournalPair D g) → Type 0
  LeavesAllOrBehind count old new =
      (base : ℕ) (events : List Named) → Keeps old base events
      → EachPair old new (HaveAllOrBehind count base (newer_base_of old) events)

  -- A turn is due: there is a spare file, and the current one has an event.
  abbrev pub is_turn_due : JournalPair D g → Bool
  is_turn_due p = p.has_spare && nat_lt p.newer_base p.last

  -- The other file may be retired: it is open, and so many events reach up to the base of the current one.
  abbrev pub is_retirable : (count : ℕ) → JournalPair D g → Bool
  is_retirable count p = not p.has_spare && nat_le p.newer_base count

  -- The pair has turned: the spare file is the current one, with the last event's number as its base and nothing else.
  pub record IsTurned (old new : JournalPair D g) : Type 0 where
    pub base : base_of new ≡ base_of old
    pub newer_base : newer_base_of new ≡ last_of old
    pub last : last_of new ≡ last_of old
    pub spare : has_spare new ≡ false
    pub turn : is_turned new ≡ not (is_turned old)
    pub older : older new ≡ newer old

  -- After an `Ok` it has turned if a turn was due, or it is as it was.
  abbrev pub TurnsIfDue : {E : Type 0} → (old new : JournalPair D g) → Result Bool E → Type 0
  TurnsIfDue old new result =
      IfOk result (λ turned. (turned ≡ is_turn_due old) × MatchBool turned (IsTurned old new) (new ≡ old))

  -- The current file then has its base, and nothing else.
  abbrev pub OpensNew : {E : Type 0} → (old new : JournalPair D g) → Result Bool E → Type 0
  OpensNew old new result =
      (base : ℕ) (events : List Named) → Keeps old base events
      → IfOk result (λ turned. IsTrue turned → g.state (newer new) ≡ settled (base_front (last_of old) ++ closed_gate ∷ []))

  -- the file that was the other one, and the file that was the current one
  abbrev pub older_since : (old new : JournalPair D g) → D
  older_since old new = if is_turned old then second_of new else first_of new

  abbrev pub newer_since : (old new : JournalPair D g) → D
  newer_since old new = if is_turned old then first_of new else second_of new

  -- The other file was retired: it is spare, and the first kept event is the first of the current one.
  pub record IsRetired (old new : JournalPair D g) : Type 0 where
    pub base : base_of new ≡ newer_base_of old
    pub newer_base : newer_base_of new ≡ newer_base_of old
    pub last : last_of new ≡ last_of old
    pub spare : has_spare new ≡ true
    pub turn : is_turned new ≡ is_turned old
    pub newer : new.newer ≡ old.newer

  -- After an `Ok` it was retired if it may be, or the pair is as it was.
  abbrev pub RetiresIfDue : {E : Type 0} → (count : ℕ) → (old new : JournalPair D g) → Result Bool E → Type 0
  RetiresIfDue count old new result =
      IfOk result (λ retired. (retired ≡ is_retirable count old) × MatchBool retired (IsRetired old new) (new ≡ old))

  -- What each step promises beside. If a device call fails, the pair is broken; a broken pair is not changed.
  pub record Steps {T : Type 0} (old new : JournalPair D g) (result : Result T Refusal) : Type 0 where
    pub fault : IfErr result IsBrokenOrDevice
    pub device : failures new ≡ failed_after result (failures old)
    pub breaks : OnErr result (IsTrue (is_broken new))
    pub works : OnOk result (is_broken new ≡ false)
    pub refuses : IsTrue (is_broken old) → (result ≡ Err Broken) × (new ≡ old)
    pub broken : IfErr result (λ e. e ≡ Broken → IsTrue (is_broken old))
