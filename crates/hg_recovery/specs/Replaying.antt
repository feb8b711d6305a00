-- A detector that follows the events of two journals.
use Rattle.std.specs.Prelude.{◌≡◌, ◌+◌, ◌-◌, ◌++◌, ℕ, IsTrue, List, length, Some, None, Result, Err, OnOk}
use Rattle.hg_model.specs.declared.event.Named.{Named}
use Rattle.hg_model.specs.declared.limits.TheConstants.{MOST_EVENTS}
use Rattle.hg_model.specs.declared.verdict.Refusal.{Refusal}
use Rattle.hg_model.specs.declared.verdict.Refusal.TheVariants.{Damaged, FullSets}
use Rattle.hg_model.specs.Contents.{Content}
use Rattle.hg_model.specs.Change.{after, followed}
use Rattle.hg_sets.specs.declared.fault.SetFault.TheVariants.{Full}
use Rattle.hg_detect.specs.Engine.{AtPresent}
use Rattle.hg_detect.specs.Making.{Asks, sets_asked}
use Rattle.hg_detect.specs.Shown as detect
use Rattle.hg_disk.specs.Calls.{CallsAtMost}
use Rattle.hg_disk.specs.declared.disk.Disk as disk
use Rattle.hg_gate.specs.Reading.{WasRead}
use Rattle.hg_journals.specs.Collecting.{HasOutside}
use Rattle.hg_journals.specs.Pairs as pairs
use Rattle.hg_journals.specs.Pairs.{Keeps, base_of, first_of, second_of}
use Rattle.hg_journals.specs.Reading.{IsAt, IsSameButFiles}
use Rattle.hg_journals.specs.declared.pair.JournalPair.{JournalPair}
use Rattle.hg_journals.specs.declared.reader.PairReader.{PairReader}
use Rattle.hg_pool.specs.Kept.{IsFaithful}
use Rattle.hg_pool.specs.Maps as pools
use Rattle.hg_pool.specs.Shown as pool
use Rattle.hg_contents.specs.States.{IsLawfulState}
use Rattle.hg_images.specs.Images.{LeadFrom}
use Rattle.hg_recovery.specs.Answers.{CountsFailures, OnDamaged, OnFullSets}
use Rattle.hg_recovery.specs.Detectors.{IsReady}
use Rattle.hg_recovery.specs.Filling.{Fills, HasSets, IsAccepted, IsTooSmall}

-- Following one event
module _ {D : Type 0} (g : disk.Ghosts D) where
  -- A map that has the words still has them.
  abbrev pub StaysFaithful : (old new : detect.ShownDetector (pool.ShownPool D)) → Type 0
  StaysFaithful old new = AtPresent (IsFaithful g) old → AtPresent (IsFaithful g) new

  -- The rules accept the event after the content of the detector.
  abbrev pub Accepts : detect.ShownDetector (pool.ShownPool D) → Named → Type 0
  Accepts d n = IsAccepted (detect.content (pools.live g) d) n

  -- Over a map that has the words of a lawful state, Damaged is told only if the rules do not accept the event.
  abbrev pub IsDamagedIfReady : (old : detect.ShownDetector (pool.ShownPool D)) → Named → Result (Unit {0}) Refusal → Type 0
  IsDamagedIfReady old n result =
      AtPresent (IsFaithful g) old → IsLawfulState (detect.content (pools.live g) old) → OnDamaged result (¬ Accepts old n)

  -- Over a map that has the words, the detector has the content after one more event.
  abbrev pub FollowsIfFaithful : (old new : detect.ShownDetector (pool.ShownPool D)) → Named → Result (Unit {0}) Refusal → Type 0
  FollowsIfFaithful old new n result =
      AtPresent (IsFaithful g) old → OnOk result (detect.content (pools.live g) new ≡ after (detect.content (pools.live g) old) n)

  -- Over such a map, the table of sets has those of the event.
  abbrev pub AsksIfFaithful : (old new : detect.ShownDetector (pool.ShownPool D)) → Named → Result (Unit {0}) Refusal → Type 0
  AsksIfFaithful old new n result =
      AtPresent (IsFaithful g) old → OnOk result (Asks old.sets (sets_asked (detect.content (pools.live g) old) n.event) None new.sets)

  -- Over such a map, a table is told as full only if the event asks for a set too many.
  abbrev pub IsFullIfFaithful : (old new : detect.ShownDetector (pool.ShownPool D)) → Named → Result (Unit {0}) Refusal → Type 0
  IsFullIfFaithful old new n result =
      AtPresent (IsFaithful g) old → result ≡ Err FullSets
      → IsAccepted (detect.content (pools.live g) old) n × Asks old.sets (sets_asked (detect.content (pools.live g) old) n.event) (Some Full) new.sets

  abbrev pub CountsWords : (old new : detect.ShownDetector (pool.ShownPool D)) → Result (Unit {0}) Refusal → Type 0
  CountsWords old new result = CountsFailures result (g.failures (pools.disk_of old.words)) (g.failures (pools.disk_of new.words))

  -- No content is what the events behind a base lead to from that of the detector, if this is a lawful state.
  abbrev pub CantLeadOn : (base : ℕ) → List Named → detect.ShownDetector (pool.ShownPool D) → Type 0
  CantLeadOn base events d =
      IsLawfulState (detect.content (pools.live g) d) → (c : Content) → ¬ LeadFrom (detect.content (pools.live g) d) base events c

  -- The table of sets is too small for them.
  abbrev pub LacksSets : (base : ℕ) → List Named → detect.ShownDetector (pool.ShownPool D) → Type 0
  LacksSets base events d = IsTooSmall (detect.content (pools.live g) d) d.sets base events

-- Following the events of a pair
module _ {D : Type 0} {g : disk.Ghosts D} where
  -- what holds of a pair over honest disks that keeps events behind a base, and of a detector over a map that has the words
  abbrev pub IfKept : JournalPair D g → detect.ShownDetector (pool.ShownPool D) → (ℕ → List Named → Type 0) → Type 0
  IfKept p d P = (base : ℕ) (events : List Named) → IsTrue g.is_honest → Keeps p base events → AtPresent (IsFaithful g) d → P base events

  -- They lead from the content of the first detector to that of the second: all of them that the first one does not count were
  -- followed, each accepted after those before it.
  abbrev pub LeadsOn : JournalPair D g → (old new : detect.ShownDetector (pool.ShownPool D)) → Result (Unit {0}) Refusal → Type 0
  LeadsOn p old new result =
      IfKept p old (λ base events. OnOk result (LeadFrom (detect.content (pools.live g) old) base events (detect.content (pools.live g) new)))

  -- They took the first table of sets to the second.
  abbrev pub FillsSets : JournalPair D g → (old new : detect.ShownDetector (pool.ShownPool D)) → Result (Unit {0}) Refusal → Type 0
  FillsSets p old new result =
      IfKept p old (λ base events. OnOk result (HasSets (detect.content (pools.live g) old) old.sets base events (detect.content (pools.live g) new) new.sets))

  -- A detector that can go on, and whose content may go into a root, stays one.
  abbrev pub StaysReady : JournalPair D g → (old new : detect.ShownDetector (pool.ShownPool D)) → Result (Unit {0}) Refusal → Type 0
  StaysReady p old new result = IfKept p old (λ base events. IsReady g old → OnOk result (IsReady g new))

  -- The table of sets has the room that it had.
  abbrev pub KeepsLimit : JournalPair D g → (old new : detect.ShownDetector (pool.ShownPool D)) → Result (Unit {0}) Refusal → Type 0
  KeepsLimit p old new result = IfKept p old (λ base events. OnOk result (new.sets.limit ≡ old.sets.limit))

  -- Damaged is told only if they can't lead on,
  abbrev pub TellsTrueDamage : JournalPair D g → detect.ShownDetector (pool.ShownPool D) → Result (Unit {0}) Refusal → Type 0
  TellsTrueDamage p d result = IfKept p d (λ base events. OnDamaged result (CantLeadOn g base events d))

  -- and always where the detector counts fewer events than the base, or more than there were. Then nothing is changed.
  abbrev pub RefusesOutside : JournalPair D g → detect.ShownDetector (pool.ShownPool D) → JournalPair D g → detect.ShownDetector (pool.ShownPool D) → Result (Unit {0}) Refusal → Type 0
  RefusesOutside p d new_p new_d result =
      HasOutside (detect.content (pools.live g) d).events p → (result ≡ Err Damaged) × (new_p ≡ p) × (new_d ≡ d)

  -- FullSets is told only if the table of sets is too small.
  abbrev pub TellsTrueFullSets : JournalPair D g → detect.ShownDetector (pool.ShownPool D) → Result (Unit {0}) Refusal → Type 0
  TellsTrueFullSets p d result = IfKept p d (λ base events. OnFullSets result (LacksSets g base events d))

  -- the failed calls of the files of a pair and of the file of slots
  abbrev pub failures_in : JournalPair D g → detect.ShownDetector (pool.ShownPool D) → ℕ
  failures_in p d = pairs.failures p + g.failures (pools.disk_of d.words)

  abbrev pub CountsReplay : JournalPair D g → detect.ShownDetector (pool.ShownPool D) → JournalPair D g → detect.ShownDetector (pool.ShownPool D) → Result (Unit {0}) Refusal → Type 0
  CountsReplay p d new_p new_d result = CountsFailures result (failures_in p d) (failures_in new_p new_d)

  -- Nothing of the pair is changed but how often its files were called, each at most so often: no moment adds an image of one.
  pub record PairWasRead (most : ℕ) (old new : JournalPair D g) : Type 0 where
    pub same : IsSameButFiles old new
    pub first : WasRead g most (first_of old) (first_of new)
    pub second : WasRead g most (second_of old) (second_of new)

  -- So often each file is called at most: once for each event that is passed over, and once for each that there may be.
  abbrev pub most_calls : JournalPair D g → detect.ShownDetector (pool.ShownPool D) → ℕ
  most_calls p d = ((detect.content (pools.live g) d).events - base_of p) + (MOST_EVENTS + 1)

  -- Each is called at most so often.
  abbrev pub CallEach : (most : ℕ) → (old new : JournalPair D g) → Type 0
  CallEach most old new = CallsAtMost g most (first_of old) (first_of new) × CallsAtMost g most (second_of old) (second_of new)

  -- Over honest disks that is once for each event that is kept, and once more.
  abbrev pub CallsForEach : JournalPair D g → detect.ShownDetector (pool.ShownPool D) → JournalPair D g → Type 0
  CallsForEach p d new = IfKept p d (λ base events. CallEach (length events + 1) p new)

  -- ---- within the calls

  -- what holds of these where a reader has read some of the events
  abbrev pub IfAt : JournalPair D g → PairReader → detect.ShownDetector (pool.ShownPool D) → (ℕ → (events seen : List Named) → Type 0) → Type 0
  IfAt p r d P =
      (base : ℕ) (events seen : List Named) → IsTrue g.is_honest → Keeps p base events → IsAt p r seen → AtPresent (IsFaithful g) d → P base events seen

  -- The detector has followed those behind them.
  abbrev pub FollowsRest : JournalPair D g → PairReader → (old new : detect.ShownDetector (pool.ShownPool D)) → Result (Unit {0}) Refusal → Type 0
  FollowsRest p r old new result =
      IfAt p r old
      (λ base events seen. OnOk result
      ((more : List Named) × (seen ++ more ≡ events)
      × (followed (detect.content (pools.live g) old) more ≡ Some (detect.content (pools.live g) new))
      × Fills more (detect.content (pools.live g) old) old.sets (detect.content (pools.live g) new) new.sets))

  -- If the detector counts just those that were read, Damaged is told only if no events lead on,
  abbrev pub IsDamagedBehind : JournalPair D g → PairReader → detect.ShownDetector (pool.ShownPool D) → Result (Unit {0}) Refusal → Type 0
  IsDamagedBehind p r d result =
      IfAt p r d (λ base events seen. OnDamaged result (base + length seen ≡ (detect.content (pools.live g) d).events → CantLeadOn g base events d))

  -- and FullSets only if the table is too small.
  abbrev pub IsFullBehind : JournalPair D g → PairReader → detect.ShownDetector (pool.ShownPool D) → Result (Unit {0}) Refusal → Type 0
  IsFullBehind p r d result =
      IfAt p r d (λ base events seen. OnFullSets result (base + length seen ≡ (detect.content (pools.live g) d).events → LacksSets g base events d))

  -- Each file is called at most once for each event that is left, and once more.
  abbrev pub CallsForRest : JournalPair D g → PairReader → detect.ShownDetector (pool.ShownPool D) → JournalPair D g → Type 0
  CallsForRest p r d new = IfAt p r d (λ base events seen. CallEach ((length events - length seen) + 1) p new)
