-- Reading the events of a pair from a number on.
use Rattle.std.specs.Global.{Vec}
use Rattle.std.specs.Prelude.{◌≡◌, ◌≢◌, ◌⊎◌, ◌+◌, ◌-◌, ◌<◌, ℕ, min, IsTrue, List, length, take, drop, Result, IfOk, IfErr}
use Rattle.hg_model.specs.declared.event.Named.{Named}
use Rattle.hg_model.specs.declared.verdict.Refusal.{Refusal}
use Rattle.hg_model.specs.declared.verdict.Refusal.TheVariants.{Damaged}
use Rattle.hg_disk.specs.declared.disk.Disk as disk
use Rattle.hg_journals.specs.Journals.{behind}
use Rattle.hg_journals.specs.Pairs.{Keeps, ReadsWereTrue, base_of, last_of}
use Rattle.hg_journals.specs.Reading.{IsAt, Where}
use Rattle.hg_journals.specs.declared.pair.JournalPair.{JournalPair}
use Rattle.hg_journals.specs.declared.reader.PairReader.{PairReader}

module _ {D : Type 0} {g : disk.Ghosts D} where
  -- what holds of a pair that keeps events behind a base, if the reads up to `new` were true
  abbrev pub IfKeeps : (p new : JournalPair D g) → (ℕ → List Named → Type 0) → Type 0
  IfKeeps p new P = (base : ℕ) (events : List Named) → ReadsWereTrue new → Keeps p base events → P base events

  -- The pair keeps its events, if the reads were true.
  abbrev pub KeepsIfTrue : (old new : JournalPair D g) → Type 0
  KeepsIfTrue old new = IfKeeps old new (Keeps new)

  -- The reader has read just the kept events up to this number.
  abbrev pub HasReadUpTo : (count base : ℕ) → JournalPair D g → PairReader → Type 0
  HasReadUpTo count base p r = (seen : List Named) × (base + length seen ≡ count) × IsAt p r seen

  abbrev pub BeginsBehind : {E : Type 0} → (count : ℕ) → (old new : JournalPair D g) → Result PairReader E → Type 0
  BeginsBehind count old new result = IfKeeps old new (λ base events. IfOk result (HasReadUpTo count base new))

  -- The number is less than the base, or greater than that of the last event.
  abbrev pub HasOutside : (count : ℕ) → JournalPair D g → Type 0
  HasOutside count p = (count < base_of p) ⊎ (last_of p < count)

  -- how many kept events come before number `from`, and how many there are from it on, at most `most`
  abbrev pub passed_to : (from : ℕ) → JournalPair D g → ℕ
  passed_to from p = (from - 1) - base_of p

  abbrev pub wanted_from : (from most : ℕ) → JournalPair D g → ℕ
  wanted_from from most p = min most ((last_of p - base_of p) - passed_to from p)

  -- The kept events from number `from` on are found, at most `most`.
  abbrev pub Collects : {E : Type 0} → (from most : ℕ) → (old new : JournalPair D g) → Result (Vec Named) E → Type 0
  Collects from most old new result = IfKeeps old new (λ base events. IfOk result (λ found. found.items ≡ take most (behind base (from - 1) events)))

  -- ---- within the calls

  -- The reader has read some events, and so many more come up to this number.
  abbrev pub BeginsBefore : {E : Type 0} → (count : ℕ) → JournalPair D g → Result (PairReader × ℕ) E → Type 0
  BeginsBefore count p result =
      (base : ℕ) (events : List Named) → Keeps p base events
      → IfOk result (λ begun. (seen : List Named) × (base + (length seen + begun.1) ≡ count) × IsAt p begun.0 seen)

  -- The events behind those that were read are found, at most so many,
  abbrev pub TakesNext : {E : Type 0} → (count : ℕ) → JournalPair D g → PairReader → JournalPair D g → Result (Vec Named) E → Type 0
  TakesNext count old before new result =
      Where before.in_newer old before.reader new (λ base events seen. IfOk result (λ found. found.items ≡ take count (drop (length seen) events)))

  -- and no damage.
  abbrev pub TakesUndamaged : {T : Type 0} → JournalPair D g → PairReader → JournalPair D g → Result T Refusal → Type 0
  TakesUndamaged old before new result = Where before.in_newer old before.reader new (λ base events seen. IfErr result (λ e. e ≢ Damaged))
