-- What the journals of a store that is fed keep.
use Rattle.std.proofs.Common.{◌≡◌, ◌⊎◌, ◌∙◌, ◌+◌, ◌≤◌, ◌&&◌, ℕ, Bool, true, false, not, nat_le, nat_lt, List, [], ◌∷◌, length, Some, Result, Ok, Err, IsTrue, MatchBool, refl, sym, ap, subst, inl, inr, arith, if◌then◌else◌}
use Rattle.std.specs.Prelude.{IfOk, OnOk}
use Rattle.std.proofs.lemmas.Bool.{true≢false, le-leb, ltb-false}
use Rattle.hg_model.specs.declared.event.Named.{Named}
use Rattle.hg_model.specs.Contents.{Content}
use Rattle.hg_model.specs.declared.verdict.Refusal.{Refusal}
use Rattle.hg_disk.specs.declared.disk.Disk as disk
use Rattle.hg_disk.specs.Moments.{Leaves}
use Rattle.hg_disk.specs.State.{IsImage}
use Rattle.hg_disk.proofs.Tears.{lost_image}
use Rattle.hg_detect.specs.Shown as detect
use Rattle.hg_pool.specs.Maps as pools
use Rattle.hg_pool.specs.Shown as pool
use Rattle.hg_journal.specs.File.{IsJournalFile, JournalFile, Open, Spare}
use Rattle.hg_journal.proofs.Filing.{one_file}
use Rattle.hg_contents.proofs.Following.{followed_events}
use Rattle.hg_images.specs.Images.{Image}
use Rattle.hg_images.specs.Stores.{IsLeft}
use Rattle.hg_store.specs.declared.devices.Devices.{Devices}
use Rattle.hg_store.specs.Doing.{TakesTurns}
use Rattle.hg_store.specs.Images.{FilesReadSame, HasOpened, read_of, states_of}
use Rattle.hg_store.specs.Shown.{ShownStore, Turns, after_turn, is_turn_due, live, other, saved}
use Rattle.hg_store.specs.Steps.{IsRetired, SameBut}
use Rattle.hg_store.specs.declared.steps.StepFault.{StepFault}
use Rattle.hg_store.specs.Store.{Backs, HasItsEvents, other_file}
use Rattle.hg_store.proofs.Freezing.{idle_phase}
use Rattle.hg_commands.specs.FeedFaults.{Rests}
use Rattle.hg_commands.specs.GivingUp.{GaveUp, GivesUp, HasOneJournal, HasSpare, IsQuiet, OneReadsSame, turned}

-- an offer calls no journal
pub quiet_offer : {D : Type 0} (s m : ShownStore D) → SameBut s m → IsQuiet s m
quiet_offer {D} s m same =
    let j = same.journals in
    record {
      roots = record { root0 = same.root0; root1 = same.root1 };
      turn = record {
        base = ap (λ (t : Turns). t.base) j.turns;
        current_base = ap (λ (t : Turns). t.current_base) j.turns;
        has_spare = ap (λ (t : Turns). t.has_spare) j.turns;
        is_turned = ap (λ (t : Turns). t.is_turned) j.turns;
      };
      other = ap (λ (t : Turns). if t.is_turned then m.devices.journal1 else m.devices.journal0) j.turns
          ∙ (ap (λ (d : D). if s.turns.is_turned then d else m.devices.journal0) j.journal1 ∙ ap (λ (d : D). if s.turns.is_turned then s.devices.journal1 else d) j.journal0);
    }

-- Turns and retirements

taken_by : {D : Type 0} (due : Bool) (t n : Turns) (devices old : Devices D) → MatchBool due (n ≡ after_turn t) (n ≡ t × (devices ≡ old)) → n ≡ (if due then after_turn t else t)
taken_by true t n devices old is = is
taken_by false t n devices old is = is.0

turns_taken : {D : Type 0} (old new : ShownStore D) → TakesTurns old new → new.turns ≡ turned old
turns_taken old new takes = taken_by (is_turn_due old) old.turns new.turns new.devices old.devices takes

-- a freeze that was made
pub turned_by : {D T : Type 0} (s n m : ShownStore D) (result : Result T Refusal) (done : Result T StepFault) → m ≡ n → IfOk result (λ answer. done ≡ Ok answer) → OnOk done (TakesTurns s n) → OnOk result (m.turns ≡ turned s)
turned_by {D} {T} s n m (Ok answer) done same is takes = ap (λ (x : ShownStore D). x.turns) same ∙ turns_taken s n (subst (λ (d : Result T StepFault). OnOk d (TakesTurns s n)) is takes)
turned_by s n m (Err r) done same is takes = tt

same_last : (due : Bool) (t : Turns) → (if due then after_turn t else t).last ≡ t.last
same_last true t = refl
same_last false t = refl

begins_by : (has later : Bool) (t : Turns) → (later ≡ false → t.current_base ≡ t.last) → (if (has && later) then after_turn t else t).current_base ≡ (if has then t.last else t.current_base)
begins_by true true t none = refl
begins_by true false t none = none refl
begins_by false later t none = refl

spare_is : (spare reached : Bool) → reached ≡ true → false ≡ (not spare && reached) → spare ≡ true
spare_is true reached sure none = refl
spare_is false reached sure none = absurd (true≢false (sym sure ∙ sym none))

-- what a retirement leaves
record IsBehind {D : Type 0} (s m : ShownStore D) : Type 0 where
  spare : m.turns.has_spare ≡ true
  begins : m.turns.current_base ≡ s.turns.current_base
  last : m.turns.last ≡ s.turns.last

behind_by : {D : Type 0} (s m : ShownStore D) (retired : Bool) → s.turns.current_base ≤ s.counted → IsRetired s m retired → IsBehind s m
behind_by s m true reaches is = record {
  spare = ap (λ (t : Turns). t.has_spare) is.turns;
  begins = ap (λ (t : Turns). t.current_base) is.turns;
  last = ap (λ (t : Turns). t.last) is.turns;
}
behind_by {D} s m false reaches is = record {
  spare = ap (λ (x : ShownStore D). x.turns.has_spare) is.turns ∙ spare_is s.turns.has_spare (nat_le s.turns.current_base s.counted) (le-leb s.turns.current_base s.counted reaches) is.answer;
  begins = ap (λ (x : ShownStore D). x.turns.current_base) is.turns;
  last = ap (λ (x : ShownStore D). x.turns.last) is.turns;
}

module _ {D : Type 0} (g : disk.Ghosts D) where
  -- the current journal begins no later than the newest root counts, if that counts all durable events
  pub reaches : (s : ShownStore D) → HasItsEvents g s → Backs g s → s.counted ≡ (saved g s).events → s.turns.current_base ≤ s.counted
  reaches s keeps backs counts = omega (arith, keeps.ends, keeps.last, backs.count, counts)

  -- a root that counts all events counts those that are durable
  pub counts_all : (old s : ShownStore D) → Backs g old → Rests old → s.committed ≡ old.committed → s.counted ≡ old.detector.parts.events → s.counted ≡ (saved g s).events
  counts_all old s backs rests committed counted =
      let none = ap (λ (xs : List Named). length xs) (idle_phase old.progress.phase old.pending rests.1).1 in
      let all : (live g old).events ≡ (saved g old).events + length old.pending = followed_events old.pending (saved g old) (live g old) backs.live in
      let now : s.counted ≡ (live g old).events = counted in
      let same : (saved g s).events ≡ (saved g old).events = ap (λ (d : detect.ShownDetector (pool.ShownPool D)). d.parts.events) committed in
      omega (arith, none, all, now, same)

  -- no later event, so the current journal has none
  none_later : (s : ShownStore D) → HasItsEvents g s → nat_lt s.turns.current_base s.turns.last ≡ false → s.turns.current_base ≡ s.turns.last
  none_later s keeps none = let few = ltb-false s.turns.current_base s.turns.last none in omega (arith, keeps.ends, few)

  -- A checkpoint of `old` that was frozen, opened and followed by a retirement, from `s` to `m`
  pub gives_up : (old s m : ShownStore D) (retired : Bool) → HasItsEvents g old → s.turns ≡ turned old → s.turns.current_base ≤ s.counted → IsRetired s m retired → GivesUp old m
  gives_up old s m retired keeps turns reaches is =
      let behind = behind_by s m retired reaches is in
      let last : m.turns.last ≡ old.turns.last = behind.last ∙ (ap (λ (t : Turns). t.last) turns ∙ same_last (is_turn_due old) old.turns) in
      record {
        spare = behind.spare;
        begins = behind.begins
            ∙ (ap (λ (t : Turns). t.current_base) turns
            ∙ (begins_by old.turns.has_spare (nat_lt old.turns.current_base old.turns.last) old.turns (λ none. none_later old keeps none)
            ∙ ap (λ (n : ℕ). if old.turns.has_spare then n else old.turns.current_base) (sym last)));
      }

  -- where nothing but the current journal was called before
  pub gives_up_behind : (s u w : ShownStore D) → IsQuiet s u → GivesUp u w → GivesUp s w
  gives_up_behind s u w quiet gives = record {
    spare = gives.spare;
    begins = gives.begins
        ∙ (ap (λ (b : Bool). if b then w.turns.last else u.turns.current_base) quiet.turn.has_spare
        ∙ ap (λ (n : ℕ). if s.turns.has_spare then w.turns.last else n) quiet.turn.current_base);
  }

  -- The newest checkpoint, where neither the roots nor the slots were called
  pub opened_stays : (old new : Devices D) (number : ℕ) (c : Content) → new.slots ≡ old.slots → new.root0 ≡ old.root0 → new.root1 ≡ old.root1 → HasOpened g old number c → HasOpened g new number c
  opened_stays old new number c slots root0 root1 opened = record {
    checkpoint = opened.checkpoint;
    is_number = opened.is_number;
    events = opened.events;
    is_content = opened.is_content;
    newest = λ image left.
        let before : Image = record { journal0 = (g.state old.journal0).synced; journal1 = (g.state old.journal1).synced; slots = image.slots; root0 = image.root0; root1 = image.root1 } in
        opened.newest before (record {
          journal0 = lost_image (g.state old.journal0);
          journal1 = lost_image (g.state old.journal1);
          slots = subst (λ (d : D). IsImage (g.state d) image.slots) slots left.slots;
          root0 = subst (λ (d : D). IsImage (g.state d) image.root0) root0 left.root0;
          root1 = subst (λ (d : D). IsImage (g.state d) image.root1) root1 left.root1;
        });
  }

  -- From stores to devices

  one_journal_by : (in_first spare : Bool) (base next : ℕ) (former later : List Named) (journal0 journal1 : D) (bytes0 bytes1 : List ℕ) → spare ≡ true
      → Leaves (λ bytes. IsJournalFile bytes (other_file spare base former)) (g.state (if in_first then journal1 else journal0))
      → Leaves (λ bytes. IsJournalFile bytes (Open next later)) (g.state (if in_first then journal0 else journal1))
      → IsImage (g.state journal0) bytes0 → IsImage (g.state journal1) bytes1
      → (IsJournalFile bytes0 Spare × IsJournalFile bytes1 (Open next later)) ⊎ (IsJournalFile bytes1 Spare × IsJournalFile bytes0 (Open next later))
  one_journal_by true spare base next former later journal0 journal1 bytes0 bytes1 is has_other has_current image0 image1 =
      inr (subst (λ (b : Bool). IsJournalFile bytes1 (other_file b base former)) is (has_other bytes1 image1), has_current bytes0 image0)
  one_journal_by false spare base next former later journal0 journal1 bytes0 bytes1 is has_other has_current image0 image1 =
      inl (subst (λ (b : Bool). IsJournalFile bytes0 (other_file b base former)) is (has_other bytes0 image0), has_current bytes1 image1)

  -- in each image of a store with a spare journal the other one has its events
  one_journal : (s : ShownStore D) (keeps : HasItsEvents g s) → s.turns.has_spare ≡ true → (image : Image) → IsLeft (states_of g s.devices) image → HasOneJournal s.turns.current_base keeps.later image
  one_journal s keeps is image left =
      one_journal_by s.turns.is_turned s.turns.has_spare s.turns.base s.turns.current_base keeps.former keeps.later s.devices.journal0 s.devices.journal1 image.journal0 image.journal1 is
      keeps.has_other keeps.has_current left.journal0 left.journal1

  not_both : (bytes : List ℕ) (base : ℕ) (events : List Named) → IsJournalFile bytes Spare → IsJournalFile bytes (Open base events) → ⊥
  not_both bytes base events spare others = never (one_file bytes Spare (Open base events) spare others)
    where
      never : Spare ≡ Open base events → ⊥
      never e = absurd (cc)

  -- a store whose devices read a spare journal has one
  had_spare_by : (has_its_bytes : (d : D) → IsImage (g.state d) (g.state d).contents) (in_first spare : Bool) (base next : ℕ) (former later : List Named) (journal0 journal1 : D)
      → Leaves (λ bytes. IsJournalFile bytes (other_file spare base former)) (g.state (if in_first then journal1 else journal0))
      → Leaves (λ bytes. IsJournalFile bytes (Open next later)) (g.state (if in_first then journal0 else journal1))
      → IsJournalFile (g.state journal0).contents Spare ⊎ IsJournalFile (g.state journal1).contents Spare → spare ≡ true
  had_spare_by has_its_bytes in_first true base next former later journal0 journal1 has_other has_current had = refl
  had_spare_by has_its_bytes true false base next former later journal0 journal1 has_other has_current (inl had) =
      absurd (not_both (g.state journal0).contents next later had (has_current (g.state journal0).contents (has_its_bytes journal0)))
  had_spare_by has_its_bytes true false base next former later journal0 journal1 has_other has_current (inr had) =
      absurd (not_both (g.state journal1).contents base former had (has_other (g.state journal1).contents (has_its_bytes journal1)))
  had_spare_by has_its_bytes false false base next former later journal0 journal1 has_other has_current (inl had) =
      absurd (not_both (g.state journal0).contents base former had (has_other (g.state journal0).contents (has_its_bytes journal0)))
  had_spare_by has_its_bytes false false base next former later journal0 journal1 has_other has_current (inr had) =
      absurd (not_both (g.state journal1).contents next later had (has_current (g.state journal1).contents (has_its_bytes journal1)))

  had_spare : ((d : D) → IsImage (g.state d) (g.state d).contents) → (old : Devices D) (s : ShownStore D) → FilesReadSame g old s.devices → HasItsEvents g s → HasSpare (read_of g old) → s.turns.has_spare ≡ true
  had_spare has_its_bytes old s same keeps had =
      had_spare_by has_its_bytes s.turns.is_turned s.turns.has_spare s.turns.base s.turns.current_base keeps.former keeps.later s.devices.journal0 s.devices.journal1 keeps.has_other keeps.has_current (reads had)
    where
      reads : HasSpare (read_of g old) → HasSpare (read_of g s.devices)
      reads (inl had) = inl (subst (λ (bytes : List ℕ). IsJournalFile bytes Spare) (sym same.journal0) had)
      reads (inr had) = inr (subst (λ (bytes : List ℕ). IsJournalFile bytes Spare) (sym same.journal1) had)

  no_events : (events : List Named) → length events ≡ 0 → events ≡ []
  no_events [] none = refl
  no_events (n ∷ events) none = absurd (omega (arith, none))

  -- a store was opened and fed, and a checkpoint was made then
  pub gave_up : ((d : D) → IsImage (g.state d) (g.state d).contents) → (old new : Devices D) (s u : ShownStore D) (c : Content) → FilesReadSame g old s.devices → HasItsEvents g s → HasItsEvents g u → u.durable ≡ c.events → GivesUp s u → new ≡ u.devices → GaveUp g old new c
  gave_up has_its_bytes old new s u c same began keeps count gives is = record {
    base = u.turns.current_base;
    events = keeps.later;
    ends = omega (arith, keeps.ends, keeps.last, count);
    files = λ image left. one_journal u keeps gives.spare image (subst (λ (d : Devices D). IsLeft (states_of g d) image) is left);
    all = λ had.
        let spare = had_spare has_its_bytes old s same began had in
        let base : u.turns.current_base ≡ u.turns.last = subst (λ (b : Bool). u.turns.current_base ≡ (if b then u.turns.last else s.turns.current_base)) spare gives.begins in
        no_events keeps.later (omega (arith, keeps.ends, base));
  }

  -- where no checkpoint was due, one journal was not called behind the opening
  alone_by : (in_first : Bool) (old new a : Devices D) → FilesReadSame g old a → (if in_first then new.journal1 else new.journal0) ≡ (if in_first then a.journal1 else a.journal0) → OneReadsSame g old new
  alone_by true old new a same is = inr (ap (λ (d : D). (g.state d).contents) is ∙ same.journal1)
  alone_by false old new a same is = inl (ap (λ (d : D). (g.state d).contents) is ∙ same.journal0)

  pub one_alone : (old new : Devices D) (s u : ShownStore D) → FilesReadSame g old s.devices → IsQuiet s u → new ≡ u.devices → OneReadsSame g old new
  one_alone old new s u same quiet is =
      subst (λ (d : Devices D). OneReadsSame g old d) (sym is)
      (alone_by s.turns.is_turned old u.devices s.devices same
      (subst (λ (b : Bool). (if b then u.devices.journal1 else u.devices.journal0) ≡ other s) quiet.turn.is_turned quiet.other))
