-- What two journal files keep together.
use Rattle.std.specs.Prelude.{◌≡◌, ◌⊎◌, ◌+◌, ◌<◌, ◌≤◌, ◌-◌, ℕ, List, ◌++◌, length, drop}
use Rattle.hg_model.specs.declared.event.Named.{Named}
use Rattle.hg_gate.specs.declared.based.TheConstants.{MAX_BASE}
use Rattle.hg_journal.specs.File.{IsJournalFile, JournalFile, Open, Spare}

-- One open file ends where the next one begins: the base of the next is the number of its last event. It has events. Together they
-- have this base and these events.
abbrev pub Join : (base : ℕ) (events : List Named) (next : ℕ) (later : List Named) → (first : ℕ) → (all : List Named) → Type 0
Join base events next later first all = (next ≡ base + length events) × (base < next) × (first ≡ base) × (all ≡ events ++ later)

-- Two files keep these events behind this base, the number of events that came before them. One file is open, and has them; or
-- both are, and the one begins where the other ends. Two spare files keep nothing, not even a base.
abbrev pub AreJournals : (one other : JournalFile) → (base : ℕ) → List Named → Type 0
AreJournals Spare Spare first all = ⊥
AreJournals (Open base events) Spare first all = (first ≡ base) × (all ≡ events)
AreJournals Spare (Open base events) first all = (first ≡ base) × (all ≡ events)
AreJournals (Open base events) (Open next later) first all =
    Join base events next later first all ⊎ Join next later base events first all

-- The bytes of two files keep these events behind this base. No event has a number above the greatest base.
pub record HaveJournals (base : ℕ) (events : List Named) (bytes0 bytes1 : List ℕ) : Type 0 where
  pub one : JournalFile
  pub other : JournalFile
  pub one_is : IsJournalFile bytes0 one
  pub other_is : IsJournalFile bytes1 other
  pub are : AreJournals one other base events
  pub fits : base + length events ≤ MAX_BASE

-- They keep nothing.
abbrev pub HaveNoJournals : (bytes0 bytes1 : List ℕ) → Type 0
HaveNoJournals bytes0 bytes1 = (base : ℕ) (events : List Named) → ¬ HaveJournals base events bytes0 bytes1

-- They keep one base and one list of events at most.
abbrev pub KeepOnce : (bytes0 bytes1 : List ℕ) → Type 0
KeepOnce bytes0 bytes1 =
    (base other : ℕ) (events others : List Named)
    → HaveJournals base events bytes0 bytes1 → HaveJournals other others bytes0 bytes1 → (base ≡ other) × (events ≡ others)

-- They keep the events from before, with all the new ones or none.
abbrev pub HaveAllOrNone : (base : ℕ) (past events : List Named) → (bytes0 bytes1 : List ℕ) → Type 0
HaveAllOrNone base past events bytes0 bytes1 =
    HaveJournals base past bytes0 bytes1 ⊎ HaveJournals base (past ++ events) bytes0 bytes1

-- the events behind the first `next` ones, of events behind a base
abbrev pub behind : (base next : ℕ) → List Named → List Named
behind base next events = drop (next - base) events

-- They keep all events; or those behind the greater base `next` alone, and so many are counted elsewhere.
abbrev pub HaveAllOrBehind : (count base next : ℕ) → List Named → (bytes0 bytes1 : List ℕ) → Type 0
HaveAllOrBehind count base next events bytes0 bytes1 =
    HaveJournals base events bytes0 bytes1 ⊎ ((next ≤ count) × HaveJournals next (behind base next events) bytes0 bytes1)
