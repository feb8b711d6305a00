-- What a journal shows, and how far its events were read.
use Rattle.std.specs.Global.{Vec}
use Rattle.std.specs.Prelude.{◌≡◌, ◌≢◌, ℕ, zero, suc, ◌-◌, ◌≤◌, Bool, IsTrue, List, [], ◌∷◌, ◌++◌, length, take, drop, map, Option, MatchBool, MatchOption, Result, Ok, Err, OnOk, OnErr, IfOk, IfErr, IsErrOf}
use Rattle.std.specs.List.{flat_map, AllByRecursion}
use Rattle.hg_model.specs.declared.event.Named.{Named}
use Rattle.hg_model.specs.declared.verdict.Refusal.{Refusal}
use Rattle.hg_model.specs.declared.verdict.Refusal.TheVariants.{Damaged}
use Rattle.hg_records.specs.Records.{BeginsWith, RecordFits}
use Rattle.hg_disk.specs.Moments.{LeavesOnly}
use Rattle.hg_disk.specs.State.{settled}
use Rattle.hg_disk.specs.declared.disk.Disk as disk
use Rattle.hg_gate.specs.Batches.{closed_gate, header}
use Rattle.hg_gate.specs.Log as log
use Rattle.hg_gate.specs.Log.{Has}
use Rattle.hg_gate.specs.Turning as turning
use Rattle.hg_gate.specs.Turning.{IsReadTo, StaysReadTo}
use Rattle.hg_journal.specs.declared.journal.Journal.{Journal}
use Rattle.hg_journal.specs.declared.journal.JournalReader.{JournalReader}
use Rattle.hg_journal.specs.Journal.{IsAllOrNoneBehind, IsJournalBehind, IsNoJournalBehind, LeavesJournalBehind, after_refusal, batch_text}

-- the bytes of the present batch that were not read yet
abbrev pub rest_of : JournalReader → List ℕ
rest_of r = turning.rest_of r.batches

-- The reader is behind the same batches as before, whatever the log has.
abbrev pub StaysBehind : (old new : JournalReader) → Type 0
StaysBehind old new = StaysReadTo old.batches new.batches

-- The first bytes are n records and then the rest.
abbrev pub Passes : ℕ → List ℕ → List ℕ → Type 0
Passes zero first rest = rest ≡ first
Passes (suc n) first rest = (mid : List ℕ) × Passes n first mid × (named : Named) × BeginsWith mid named rest

module _ {D : Type 0} {g : disk.Ghosts D} where
  abbrev pub disk_of : Journal D g → D
  disk_of j = log.disk_of j.log

-- ---- journals behind any front, of a journal without a base or of one with a base

module _ {D : Type 0} {g : disk.Ghosts D} (front : List ℕ) where
  -- The journal can be used, and these are its batches, durable. It is not known yet whether they are records.
  abbrev pub OpensBehind : Journal D g → List (List ℕ) → Type 0
  OpensBehind j bodies = Has front j.log bodies

  -- The journal can be used, and has these events, durable.
  pub record KeepsBehind (j : Journal D g) (events : List Named) : Type 0 where
    pub batches : List (List Named)
    pub has : Has front j.log (map batch_text batches)
    pub fits : AllByRecursion RecordFits events
    pub whole : events ≡ flat_map (λ batch. batch) batches

  -- The reader has read just the events `seen`, from the first on: those of the batches `past`, and the events `read`
  -- of the present batch, if there is one.
  pub record IsAtBehind (j : Journal D g) (r : JournalReader) (seen : List Named) : Type 0 where
    pub past : List (List Named)
    pub present : List (List ℕ)
    pub later : List (List ℕ)
    pub read : List Named
    pub has : Has front j.log ((map batch_text past ++ present) ++ later)
    pub place : IsReadTo r.batches (map batch_text past ++ present) later
    pub one : length present ≤ 1
    pub split : flat_map (λ body. body) present ≡ batch_text read ++ rest_of r
    pub fits : AllByRecursion RecordFits seen
    pub whole : seen ≡ flat_map (λ batch. batch) past ++ read

  -- The journal has the new events too, all of them durable,
  abbrev pub AddsEventsBehind : {T E : Type 0} → (events : List Named) → (old new : Journal D g) → Result T E → Type 0
  AddsEventsBehind events old new result = (past : List Named) → KeepsBehind old past → OnOk result (KeepsBehind new (past ++ events))

  -- and each image has them.
  abbrev pub AddsDurablyBehind : {T E : Type 0} → (events : List Named) → (old new : Journal D g) → Result T E → Type 0
  AddsDurablyBehind events old new result = (past : List Named) → KeepsBehind old past → OnOk result (LeavesJournalBehind front (past ++ events) (g.state (disk_of new)))

  -- A crash at any moment leaves the events from before, with all the new ones or none.
  abbrev pub LeavesAllOrNoneBehind : (events : List Named) → (old new : Journal D g) → Type 0
  LeavesAllOrNoneBehind events old new =
      (past : List Named) → KeepsBehind old past → LeavesOnly g (disk_of old) (disk_of new) (IsAllOrNoneBehind front past events)

  -- Each reader has read what it had read before, and so goes on to the new events.
  abbrev pub KeepsReadersBehind : {T E : Type 0} → (old new : Journal D g) → Result T E → Type 0
  KeepsReadersBehind old new result = (reader : JournalReader) (seen : List Named) → IsAtBehind old reader seen → OnOk result (IsAtBehind new reader seen)

  -- If the journal can be used, the reader has read nothing.
  abbrev pub BeginsAtFirstBehind : {E : Type 0} → Journal D g → Result JournalReader E → Type 0
  BeginsAtFirstBehind j result = (bodies : List (List ℕ)) → OpensBehind j bodies → IfOk result (λ reader. IsAtBehind j reader [])

  -- A reader that had read the events `seen` finds bytes of a batch, or these were all events;
  abbrev pub FindsMoreBehind : {E : Type 0} → Journal D g → JournalReader → Journal D g → JournalReader → Result Bool E → Type 0
  FindsMoreBehind old before new after result =
      (seen : List Named) → IsTrue (g.reads_were_true (disk_of new)) → IsAtBehind old before seen
      → IfOk result (λ more. MatchBool more (IsAtBehind new after seen × (1 ≤ length (rest_of after))) (KeepsBehind new seen))

  -- and no damage.
  abbrev pub FindsUndamagedBehind : {T : Type 0} → Journal D g → JournalReader → Journal D g → Result T Refusal → Type 0
  FindsUndamagedBehind old before new result = (seen : List Named) → IsTrue (g.reads_were_true (disk_of new)) → IsAtBehind old before seen → IfErr result (λ e. e ≢ Damaged)

  -- After an `Err` the reader is where it was,
  abbrev pub StaysOnErrBehind : {T E : Type 0} → Journal D g → JournalReader → Journal D g → JournalReader → Result T E → Type 0
  StaysOnErrBehind old before new after result = (seen : List Named) → IsAtBehind old before seen → OnErr result (IsAtBehind new after seen)

  -- if the reads were true at least.
  abbrev pub CanBeTriedAgainBehind : {T E : Type 0} → Journal D g → JournalReader → Journal D g → JournalReader → Result T E → Type 0
  CanBeTriedAgainBehind old before new after result =
      (seen : List Named) → IsTrue (g.reads_were_true (disk_of new)) → IsAtBehind old before seen → OnErr result (IsAtBehind new after seen)

  -- The reader has read one more event, or it had read all.
  abbrev pub ReadsNextBehind : {E : Type 0} → Journal D g → JournalReader → Journal D g → JournalReader → Result (Option Named) E → Type 0
  ReadsNextBehind old before new after result =
      (seen : List Named) → IsTrue (g.reads_were_true (disk_of new)) → IsAtBehind old before seen
      → IfOk result (λ found. MatchOption found (KeepsBehind new seen) (λ named. IsAtBehind new after (seen ++ named ∷ [])))

  -- If the answer is not 0, it has read this many more events;
  abbrev pub ReadsMoreBehind : {E : Type 0} → Journal D g → JournalReader → Journal D g → JournalReader → Result ℕ E → Type 0
  ReadsMoreBehind old before new after result =
      (seen : List Named) → IsTrue (g.reads_were_true (disk_of new)) → IsAtBehind old before seen
      → IfOk result (λ count. 1 ≤ count → (more : List Named) × (length more ≡ count) × IsAtBehind new after (seen ++ more))

  -- and if the answer is 0, it has read all.
  abbrev pub HasReadAllBehind : {E : Type 0} → Journal D g → JournalReader → Journal D g → Result ℕ E → Type 0
  HasReadAllBehind old before new result =
      (seen : List Named) → IsTrue (g.reads_were_true (disk_of new)) → IsAtBehind old before seen → IfOk result (λ count. count ≡ 0 → KeepsBehind new seen)

  -- If damage is told, the bytes are not a journal's.
  abbrev pub TellsTrueDamageBehind : {T : Type 0} → Journal D g → JournalReader → Journal D g → Result T Refusal → Type 0
  TellsTrueDamageBehind old before new result =
      (seen : List Named) → IsTrue (g.reads_were_true (disk_of new)) → IsAtBehind old before seen → IsErrOf result Damaged → IsNoJournalBehind front (g.state (disk_of old)).contents

  -- The bytes that a read gives are a journal of the events that it keeps,
  abbrev pub ReadsKeptBehind : Journal D g → List Named → Type 0
  ReadsKeptBehind j events = KeepsBehind j events → IsJournalBehind front (g.state (disk_of j)).contents events

  -- and so are the bytes that a crash leaves.
  abbrev pub LeavesKeptBehind : Journal D g → List Named → Type 0
  LeavesKeptBehind j events = KeepsBehind j events → LeavesJournalBehind front events (g.state (disk_of j))

  -- The events that a reader has read are the front of the journal's events.
  abbrev pub HasReadFrontBehind : Journal D g → JournalReader → (seen events : List Named) → Type 0
  HasReadFrontBehind j reader seen events =
      IsAtBehind j reader seen → IsJournalBehind front (g.state (disk_of j)).contents events → (left : List Named) × (events ≡ seen ++ left)

module _ {D : Type 0} {g : disk.Ghosts D} where
  -- What the journal keeps stays,
  abbrev pub StaysKept : (old new : Journal D g) → Type 0
  StaysKept old new = (front : List ℕ) (events : List Named) → KeepsBehind front old events → KeepsBehind front new events

  -- and so does what it opens.
  abbrev pub StaysOpened : (old new : Journal D g) → Type 0
  StaysOpened old new = (front : List ℕ) (bodies : List (List ℕ)) → OpensBehind front old bodies → OpensBehind front new bodies

-- ---- journals without a base: the same, each behind their header

module _ {D : Type 0} {g : disk.Ghosts D} where
  abbrev pub Opens : Journal D g → List (List ℕ) → Type 0
  Opens j bodies = OpensBehind header j bodies

  abbrev pub KeepsEvents : Journal D g → List Named → Type 0
  KeepsEvents j events = KeepsBehind header j events

  abbrev pub IsAt : Journal D g → JournalReader → List Named → Type 0
  IsAt j r seen = IsAtBehind header j r seen

  abbrev pub AddsEvents : {T E : Type 0} → (events : List Named) → (old new : Journal D g) → Result T E → Type 0
  AddsEvents events old new result = AddsEventsBehind header events old new result

  abbrev pub AddsDurably : {T E : Type 0} → (events : List Named) → (old new : Journal D g) → Result T E → Type 0
  AddsDurably events old new result = AddsDurablyBehind header events old new result

  abbrev pub LeavesAllOrNone : (events : List Named) → (old new : Journal D g) → Type 0
  LeavesAllOrNone events old new = LeavesAllOrNoneBehind header events old new

  abbrev pub KeepsReaders : {T E : Type 0} → (old new : Journal D g) → Result T E → Type 0
  KeepsReaders old new result = KeepsReadersBehind header old new result

  abbrev pub BeginsAtFirst : {E : Type 0} → Journal D g → Result JournalReader E → Type 0
  BeginsAtFirst j result = BeginsAtFirstBehind header j result

  abbrev pub FindsMore : {E : Type 0} → Journal D g → JournalReader → Journal D g → JournalReader → Result Bool E → Type 0
  FindsMore old before new after result = FindsMoreBehind header old before new after result

  abbrev pub FindsUndamaged : {T : Type 0} → Journal D g → JournalReader → Journal D g → Result T Refusal → Type 0
  FindsUndamaged old before new result = FindsUndamagedBehind header old before new result

  abbrev pub StaysOnErr : {T E : Type 0} → Journal D g → JournalReader → Journal D g → JournalReader → Result T E → Type 0
  StaysOnErr old before new after result = StaysOnErrBehind header old before new after result

  abbrev pub CanBeTriedAgain : {T E : Type 0} → Journal D g → JournalReader → Journal D g → JournalReader → Result T E → Type 0
  CanBeTriedAgain old before new after result = CanBeTriedAgainBehind header old before new after result

  abbrev pub ReadsNext : {E : Type 0} → Journal D g → JournalReader → Journal D g → JournalReader → Result (Option Named) E → Type 0
  ReadsNext old before new after result = ReadsNextBehind header old before new after result

  abbrev pub ReadsMore : {E : Type 0} → Journal D g → JournalReader → Journal D g → JournalReader → Result ℕ E → Type 0
  ReadsMore old before new after result = ReadsMoreBehind header old before new after result

  abbrev pub HasReadAll : {E : Type 0} → Journal D g → JournalReader → Journal D g → Result ℕ E → Type 0
  HasReadAll old before new result = HasReadAllBehind header old before new result

  abbrev pub TellsTrueDamage : {T : Type 0} → Journal D g → JournalReader → Journal D g → Result T Refusal → Type 0
  TellsTrueDamage old before new result = TellsTrueDamageBehind header old before new result

  abbrev pub ReadsKept : Journal D g → List Named → Type 0
  ReadsKept j events = ReadsKeptBehind header j events

  abbrev pub LeavesKept : Journal D g → List Named → Type 0
  LeavesKept j events = LeavesKeptBehind header j events

  abbrev pub HasReadFront : Journal D g → JournalReader → (seen events : List Named) → Type 0
  HasReadFront j reader seen events = HasReadFrontBehind header j reader seen events

  -- whether a device call of an append failed
  abbrev pub is_broken : Journal D g → Bool
  is_broken j = log.is_broken j.log

  -- the disk after a call that makes a journal of it, or hands it back
  abbrev pub disk_after : Result (Journal D g) (Refusal × D) → D
  disk_after (Ok journal) = disk_of journal
  disk_after (Err refused) = refused.1

  -- how many calls of the disk have failed after such a call; n had failed before it
  abbrev pub failures_of_making : Result (Journal D g) (Refusal × D) → ℕ → ℕ
  failures_of_making (Ok journal) n = n
  failures_of_making (Err refused) n = after_refusal refused.0 n

  -- It has no events, its disk has the header and a closed gate, and no call failed since the disk was `before`.
  abbrev pub IsEmptyOn : D → Journal D g → Type 0
  IsEmptyOn before j =
      KeepsEvents j [] × (g.state (disk_of j) ≡ settled (header ++ closed_gate ∷ [])) × (g.failures (disk_of j) ≡ g.failures before)

  -- It has some list of batches, perhaps the empty one.
  abbrev pub OpensSome : Journal D g → Type 0
  OpensSome j = (bodies : List (List ℕ)) × Opens j bodies

  -- A broken journal stays broken, and its disk stays as it was.
  abbrev pub StaysBroken : (old new : Journal D g) → Type 0
  StaysBroken old new = IsTrue (is_broken old) → (disk_of new ≡ disk_of old) × IsTrue (is_broken new)

  -- Of the first `count` events those from number `from` on are found, at most `most`,
  abbrev pub Collects : {E : Type 0} → (old new : Journal D g) → (count from most : ℕ) → Result (Vec Named) E → Type 0
  Collects old new count from most result =
      (events : List Named) → IsTrue (g.reads_were_true (disk_of new)) → KeepsEvents old events → length events ≡ count
      → IfOk result (λ found. found.items ≡ take most (drop (from - 1) events))

  -- and no damage.
  abbrev pub CollectsUndamaged : {T : Type 0} → (old new : Journal D g) → Result T Refusal → Type 0
  CollectsUndamaged old new result = (events : List Named) → IsTrue (g.reads_were_true (disk_of new)) → KeepsEvents old events → IfErr result (λ e. e ≢ Damaged)
