-- How far the events of a pair were read.
use Rattle.std.specs.Prelude.{◌≡◌, ◌≢◌, ◌⊎◌, ◌≤◌, ℕ, Bool, true, false, IsTrue, List, [], ◌∷◌, ◌++◌, length, Option, MatchOption, Result, Err, IfOk, IfErr, OnOk}
use Rattle.hg_model.specs.declared.event.Named.{Named}
use Rattle.hg_model.specs.declared.verdict.Refusal.{Refusal}
use Rattle.hg_model.specs.declared.verdict.Refusal.TheVariants.{Broken, Damaged}
use Rattle.hg_disk.specs.declared.disk.Disk as disk
use Rattle.hg_gate.specs.Batches.{base_front}
use Rattle.hg_gate.specs.Reading.{WasRead}
use Rattle.hg_journal.specs.declared.journal.JournalReader.{JournalReader}
use Rattle.hg_journal.specs.Journal.{IsOfReading, failed_after}
use Rattle.hg_journal.specs.Reading.{IsAtBehind}
use Rattle.hg_journals.specs.Pairs.{Keeps, KeepsFormer, ReadsWereTrue, failures, first_of, is_broken, newer, second_of}
use Rattle.hg_journals.specs.declared.pair.JournalPair.{JournalPair}
use Rattle.hg_journals.specs.declared.reader.PairReader.{PairReader}

module _ {D : Type 0} {g : disk.Ghosts D} where
  -- The file that is not the current one is open, and these events of it were read; or all its events, if it has some, and then
  -- events of the current file.
  abbrev pub HasRead : (in_newer : Bool) → JournalPair D g → JournalReader → List Named → Type 0
  HasRead false p r seen = (p.has_spare ≡ false) × IsAtBehind (base_front p.base) p.older r seen
  HasRead true p r seen =
      (former : List Named) × (read : List Named) × KeepsFormer p.has_spare p.older p.base former
      × IsAtBehind (base_front p.newer_base) p.newer r read × (seen ≡ former ++ read)

  -- The reader has read just these events of the pair, from the first kept one on.
  abbrev pub IsAt : JournalPair D g → PairReader → List Named → Type 0
  IsAt p r seen = HasRead r.in_newer p r.reader seen

  -- If the pair keeps events, the reader has read none of them.
  abbrev pub BeginsAtFirst : {E : Type 0} → JournalPair D g → Result PairReader E → Type 0
  BeginsAtFirst p result = (base : ℕ) (events : List Named) → Keeps p base events → IfOk result (λ reader. IsAt p reader [])

  -- what holds of a pair that keeps events behind a base, where some events were read, if the reads up to `new` were true
  abbrev pub Where : (in_newer : Bool) → JournalPair D g → JournalReader → (new : JournalPair D g) → (ℕ → List Named → List Named → Type 0) → Type 0
  Where in_newer p r new P =
      (base : ℕ) (events seen : List Named) → ReadsWereTrue new → Keeps p base events → HasRead in_newer p r seen → P base events seen

  -- One more event was read, or all had been read.
  abbrev pub HasNext : (in_newer : Bool) → JournalPair D g → JournalReader → (events seen : List Named) → Option Named → Type 0
  HasNext in_newer p r events seen found = MatchOption found (seen ≡ events) (λ named. HasRead in_newer p r (seen ++ named ∷ []))

  -- So many more events were read; or the count is 0, and all had been read.
  abbrev pub HasMore : (in_newer : Bool) → JournalPair D g → JournalReader → (events seen : List Named) → ℕ → Type 0
  HasMore in_newer p r events seen count =
      ((count ≡ 0) × (seen ≡ events)) ⊎ ((1 ≤ count) × (more : List Named) × (length more ≡ count) × HasRead in_newer p r (seen ++ more))

  -- There is no damage, and the same events were read.
  abbrev pub HasStayed : (in_newer : Bool) → JournalPair D g → JournalReader → List Named → Refusal → Type 0
  HasStayed in_newer p r seen refusal = (refusal ≢ Damaged) × HasRead in_newer p r seen

  -- The reader has read one more event, or it had read all.
  abbrev pub ReadsNext : {E : Type 0} → JournalPair D g → PairReader → JournalPair D g → PairReader → Result (Option Named) E → Type 0
  ReadsNext old before new after result =
      Where before.in_newer old before.reader new (λ base events seen. IfOk result (HasNext after.in_newer new after.reader events seen))

  -- It has read so many more events, one at least; or the answer is 0, and it had read all.
  abbrev pub ReadsMore : {E : Type 0} → JournalPair D g → PairReader → JournalPair D g → PairReader → Result ℕ E → Type 0
  ReadsMore old before new after result =
      Where before.in_newer old before.reader new (λ base events seen. IfOk result (HasMore after.in_newer new after.reader events seen))

  -- After an `Err` the reader is where it was, and there is no damage.
  abbrev pub StaysOnErr : {T : Type 0} → JournalPair D g → PairReader → JournalPair D g → PairReader → Result T Refusal → Type 0
  StaysOnErr old before new after result =
      Where before.in_newer old before.reader new (λ base events seen. IfErr result (HasStayed after.in_newer new after.reader seen))

  -- The pair keeps its events.
  abbrev pub KeepsWhereRead : JournalPair D g → PairReader → JournalPair D g → Type 0
  KeepsWhereRead old before new = Where before.in_newer old before.reader new (λ base events seen. Keeps new base events)

  -- Each reader has read what it had read before, and so goes on to the new events.
  abbrev pub KeepsReaders : {T E : Type 0} → (old new : JournalPair D g) → Result T E → Type 0
  KeepsReaders old new result = (reader : PairReader) (seen : List Named) → IsAt old reader seen → OnOk result (IsAt new reader seen)

  -- A reader that is in the current file stays in it, and leaves the other one as it was.
  abbrev pub LeavesOlder : JournalPair D g → PairReader → JournalPair D g → PairReader → Type 0
  LeavesOlder old before new after = IsTrue before.in_newer → (new.older ≡ old.older) × IsTrue after.in_newer

  -- The pair is as it was, but for its files.
  pub record IsSameButFiles (old new : JournalPair D g) : Type 0 where
    pub base : new.base ≡ old.base
    pub newer_base : new.newer_base ≡ old.newer_base
    pub last : new.last ≡ old.last
    pub spare : new.has_spare ≡ old.has_spare
    pub turn : new.is_turned ≡ old.is_turned
    pub broken : new.is_broken ≡ old.is_broken

  -- What a call that reads promises beside: neither file is changed, and each is called so often at most.
  pub record Reads {T : Type 0} (most : ℕ) (old new : JournalPair D g) (result : Result T Refusal) : Type 0 where
    pub same : IsSameButFiles old new
    pub first : WasRead g most (first_of old) (first_of new)
    pub second : WasRead g most (second_of old) (second_of new)
    pub fault : IfErr result (λ e. IsOfReading e ⊎ (e ≡ Broken))
    pub device : failures new ≡ failed_after result (failures old)
    pub refuses : IsTrue (is_broken old) → (result ≡ Err Broken) × (new ≡ old)
    pub broken : IfErr result (λ e. e ≡ Broken → IsTrue (is_broken old))

  -- What it promises where it reads the current file alone.
  pub record ReadsNewer {T : Type 0} (old new : JournalPair D g) (result : Result T Refusal) : Type 0 where
    pub same : IsSameButFiles old new
    pub other : new.older ≡ old.older
    pub read : WasRead g 1 (newer old) (newer new)
    pub fault : IfErr result IsOfReading
    pub device : g.failures (newer new) ≡ failed_after result (g.failures (newer old))

  -- The events that a reader has read are the front of those that the pair keeps.
  abbrev pub HasReadFront : JournalPair D g → PairReader → Type 0
  HasReadFront p r =
      (base : ℕ) (events seen : List Named) → Keeps p base events → IsAt p r seen → (left : List Named) × (events ≡ seen ++ left)

  -- ---- within the calls

  -- The same where the current file is read,
  abbrev pub NextInNewer : {E : Type 0} → JournalPair D g → JournalReader → JournalPair D g → JournalReader → Result (Option Named) E → Type 0
  NextInNewer old before new after result = Where true old before new (λ base events seen. IfOk result (HasNext true new after events seen))

  abbrev pub StaysInNewer : {T : Type 0} → JournalPair D g → JournalReader → JournalPair D g → JournalReader → Result T Refusal → Type 0
  StaysInNewer old before new after result = Where true old before new (λ base events seen. IfErr result (HasStayed true new after seen))

  -- or is begun, behind all events of the other.
  abbrev pub Behind : (p new : JournalPair D g) → (ℕ → List Named → List Named → Type 0) → Type 0
  Behind p new P =
      (base : ℕ) (events former : List Named) → ReadsWereTrue new → Keeps p base events → KeepsFormer p.has_spare p.older p.base former
      → P base events former

  abbrev pub NextBehind : {E : Type 0} → JournalPair D g → JournalPair D g → JournalReader → Result (Option Named) E → Type 0
  NextBehind old new after result = Behind old new (λ base events former. IfOk result (HasNext true new after events former))

  abbrev pub StaysBehind : {T : Type 0} → JournalPair D g → JournalPair D g → JournalReader → Result T Refusal → Type 0
  StaysBehind old new after result = Behind old new (λ base events former. IfErr result (HasStayed true new after former))

  abbrev pub MoreInNewer : {E : Type 0} → JournalPair D g → JournalReader → JournalPair D g → JournalReader → Result ℕ E → Type 0
  MoreInNewer old before new after result = Where true old before new (λ base events seen. IfOk result (HasMore true new after events seen))

  abbrev pub MoreBehind : {E : Type 0} → JournalPair D g → JournalPair D g → JournalReader → Result ℕ E → Type 0
  MoreBehind old new after result = Behind old new (λ base events former. IfOk result (HasMore true new after events former))
