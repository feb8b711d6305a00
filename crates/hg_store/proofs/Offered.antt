-- A store whose detector was offered an event, by whichever of its calls.
use Rattle.std.proofs.Common.{◌≡◌, ◌⊎◌, ◌∙◌, ◌+◌, ◌<◌, ◌≤◌, ◌^◌, inl, inr, ℕ, nat_le, List, [], ◌++◌, length, Bool, true, false, cond, Result, Ok, Err, Some, refl, sym, ap, subst, arith, if◌then◌else◌, ⊎_elim, le-leb}
use Rattle.std.specs.Prelude.{◌≢◌, IfErr, OnOk, IsTrue}
use Rattle.std.proofs.lemmas.Bool.{leb-false, lt-leb}
use Rattle.std.proofs.lemmas.List.{append-nil, length-append}
use Rattle.hg_model.specs.declared.event.Named.{Named}
use Rattle.hg_model.specs.declared.verdict.Refusal.{Refusal}
use Rattle.hg_model.specs.declared.verdict.Refusal.TheVariants as refusal
use Rattle.hg_model.specs.declared.verdict.Verdict.{Verdict}
use Rattle.hg_model.specs.declared.verdict.Verdict.TheVariants as verdicts
use Rattle.hg_model.specs.declared.verdict.Verdict.TheVariants.{Accept}
use Rattle.hg_model.specs.Contents.{Content}
use Rattle.hg_model.specs.Change.{after, followed}
use Rattle.hg_model.specs.Verdicts as standings
use Rattle.hg_model.specs.Verdicts.{standing_of, verdict}
use Rattle.hg_model.proofs.Accepted.{no_cause}
use Rattle.hg_records.specs.Records.{RecordFits}
use Rattle.hg_cells.specs.Words as cells
use Rattle.hg_detect.specs.Answering.{Applies, done, is_accepted}
use Rattle.hg_detect.specs.Engine.{LacksRoom}
use Rattle.hg_detect.specs.Shown as detect
use Rattle.hg_detect.specs.declared.detector.Answer.{Answer}
use Rattle.hg_detect.specs.declared.detector.Answer.TheVariants.{Accepted, Duplicate}
use Rattle.hg_disk.specs.State.{IsImage}
use Rattle.hg_disk.specs.declared.disk.Disk as disk
use Rattle.hg_gate.specs.declared.based.TheConstants.{MAX_BASE}
use Rattle.hg_journal.specs.Journal as journals
use Rattle.hg_journals.specs.Pairs as pairs
use Rattle.hg_pool.specs.Answers.{IsFull, IsTrueCause}
use Rattle.hg_pool.specs.Maps as pools
use Rattle.hg_pool.specs.Shown as pool
use Rattle.hg_images.specs.Choices.{Basis}
use Rattle.hg_recovery.specs.Answers.{failed_in}
use Rattle.hg_store.specs.Images.{FailuresBecome, failures_of}
use Rattle.hg_store.proofs.Refusing.{rules_call_nothing}
use Rattle.hg_store.specs.Kept.{IsSound, Parts, Standing, shown_of}
use Rattle.hg_store.specs.Offers.{IsOffered}
use Rattle.hg_store.specs.Shown.{HasCounted, ShownStore, live, words}
use Rattle.hg_store.specs.Steps.{ByVerdict, ContentOffered, HasRoom, IsAnsweredWhenFull, IsOfRoom, IsRefusedWhenFull, IsTaken, OfferDone, if_accepted}
use Rattle.hg_store.specs.Store.{HasItsEvents, StandMeanwhile}
use Rattle.hg_store.specs.declared.store.TheConstants.{MOST_PENDING}
use Rattle.hg_store.proofs.Going as going
use Rattle.hg_store.proofs.Offering.{accepted, followed_one, is_full, not_broken, of_room, reads_true, refused}
use Rattle.hg_recovery.proofs.Telling.{none_failed, words_failed}
use Rattle.hg_store.proofs.Staying.{works_on}

-- the rules accept the event, or they do not
decided : (v : Verdict) → (v ≡ Accept) ⊎ (v ≡ Accept → ⊥)
decided Accept = inl refl
decided (verdicts.Duplicate k) = inr (λ e. absurd (cc e))
decided (verdicts.Refuse r) = inr (λ e. absurd (cc e))

-- nothing is added where they do not
none_added : (v : Verdict) (may : Refusal → Type 0) (n : Named) (answer : Result Answer Refusal) → Applies v may answer → (v ≡ Accept → ⊥) → if_accepted n answer ≡ []
none_added Accept may n answer by never = absurd (never refl)
none_added (verdicts.Duplicate k) may n answer by never = ap (λ (x : Result Answer Refusal). if_accepted n x) by
none_added (verdicts.Refuse r) may n answer by never = ap (λ (x : Result Answer Refusal). if_accepted n x) by

few_added : (n : Named) (answer : Result Answer Refusal) → length (if_accepted n answer) ≤ 1
few_added n (Ok Accepted) = omega arith
few_added n (Ok (Duplicate k)) = omega arith
few_added n (Err r) = omega arith

-- how an event that the rules accept is answered
taken_or_refused : (may : Refusal → Type 0) (answer : Result Answer Refusal) → Applies Accept may answer → (answer ≡ Ok Accepted) ⊎ ((r : Refusal) × (answer ≡ Err r) × LacksRoom may r)
taken_or_refused may (Ok Accepted) by = inl refl
taken_or_refused may (Ok (Duplicate k)) by = absurd by
taken_or_refused may (Err r) by = inr (r, refl, by)

-- how many calls failed, by the answer
abbrev failed : Result Answer Refusal → ℕ
failed (Ok a) = 0
failed (Err r) = failed_in r

cells_failed : (answer : Result Answer Refusal) (n : ℕ) → cells.failed_after answer n ≡ failed answer + n
cells_failed (Ok a) n = omega arith
cells_failed (Err r) n = words_failed r n

none_failed_in : (answer : Result Answer Refusal) → (answer ≡ Err refusal.DeviceFault → ⊥) → failed answer ≡ 0
none_failed_in (Ok a) other = refl
none_failed_in (Err r) other = none_failed r (λ is. other (ap (λ (x : Refusal). Err x) is))

-- by the verdict where an event may still wait
with_room : (v : Verdict) (may : Refusal → Type 0) (pending : ℕ) (answer : Result Answer Refusal) → pending < MOST_PENDING → ((r : Refusal) → answer ≡ Err r → LacksRoom may r → IsOfRoom r) → Applies v may answer → ByVerdict v pending answer
with_room (verdicts.Duplicate k) may pending answer few room by = by
with_room (verdicts.Refuse r) may pending answer few room by = by
with_room Accept may pending answer few room by =
    subst (λ (full : Bool). cond full (answer ≡ Err refusal.FullPending) ((answer ≡ Ok Accepted) ⊎ ((r : Refusal) × (answer ≡ Err r) × IsOfRoom r))) (sym (lt-leb MOST_PENDING pending few))
    (⊎_elim (λ ok. inl ok) (λ (err : (r : Refusal) × (answer ≡ Err r) × LacksRoom may r). inr (err.0, err.1, room err.0 err.1 err.2)) (taken_or_refused may answer by))

-- the parts of a store after it
abbrev pub taking : {D : Type 0} (g : disk.Ghosts D) → Parts D g → detect.ShownDetector (pool.ShownPool D) → List Named → Bool → Parts D g
taking g s d pending broken = record {
  journals = s.journals;
  detector = d;
  checkpointer = s.checkpointer;
  committed = s.committed;
  frozen = s.frozen;
  pending = pending;
  durable = s.durable;
  counted = s.counted;
  counting = s.counting;
  is_broken = broken;
  in_doubt = s.in_doubt;
}

module _ {D : Type 0} (g : disk.Ghosts D) (bytes : (d : D) → IsImage (g.state d) (g.state d).contents) (s : Parts D g) (room : ℕ) (sound : IsSound g s room) (works : s.is_broken ≡ false) (few : length s.pending < MOST_PENDING) (fit : pairs.last_of s.journals + length s.pending < MAX_BASE)
    (d : detect.ShownDetector (pool.ShownPool D)) (n : Named) (answer : Result Answer Refusal) (fits : RecordFits n) (is : IsOffered g s.detector n answer d)
    (pending : List Named) (more : pending ≡ s.pending ++ if_accepted n answer) (broken : Bool) (told : broken ≡ pools.is_broken d.words) where
  -- the rules accept the event
  abbrev Admits : Type 0
  Admits = verdict (standing_of (live g (shown_of g s))) n ≡ Accept

  -- a pool that failed in no call works on
  still_works : (answer ≡ Err refusal.DeviceFault → ⊥) → pools.is_broken d.words ≡ false
  still_works other =
      works_on g s.detector.words d.words is.went
      (omega (arith, is.failures, cells_failed answer (g.failures (pools.disk_of s.detector.words)), none_failed_in answer other))
      (sound.words works)

  -- where the rules do not accept the event, the parts stay
  stays : (Admits → ⊥) → taking g s d pending broken ≡ s
  stays never = λ i. record {
    journals = s.journals;
    detector = is.same never i;
    checkpointer = s.checkpointer;
    committed = s.committed;
    frozen = s.frozen;
    pending = (more ∙ ap (λ (l : List Named). s.pending ++ l) (none_added _ _ n answer is.answered never) ∙ append-nil s.pending) i;
    durable = s.durable;
    counted = s.counted;
    counting = s.counting;
    is_broken = (told ∙ ap (λ (x : detect.ShownDetector (pool.ShownPool D)). pools.is_broken x.words) (is.same never) ∙ sound.words works ∙ sym works) i;
    in_doubt = s.in_doubt;
  }

  abbrev Refused : Type 0
  Refused = (r : Refusal) × (answer ≡ Err r) × LacksRoom (IsTrueCause d.words) r

  -- an accepted event joins the content
  joins : (basis : Basis) → Standing g s basis → answer ≡ Ok Accepted → detect.content (pools.live g) d ≡ after (live g (shown_of g s)) n
  joins basis k ok = is.content k.faithful ∙ ap (λ (x : Result Answer Refusal). if is_accepted x then after (live g (shown_of g s)) n else live g (shown_of g s)) ok

  -- and a refused one leaves it
  leaves : (basis : Basis) → Standing g s basis → (r : Refusal) → answer ≡ Err r → detect.content (pools.live g) d ≡ live g (shown_of g s)
  leaves basis k r err = is.content k.faithful ∙ ap (λ (x : Result Answer Refusal). if is_accepted x then after (live g (shown_of g s)) n else live g (shown_of g s)) err

  -- one of three ways: the event was accepted, or refused for want of room, or the rules do not accept it
  by_way : (P : Type 0) → (Admits → answer ≡ Ok Accepted → P) → (Admits → Refused → P) → ((Admits → ⊥) → P) → P
  by_way P ok err never =
      ⊎_elim (λ (admits : Admits). ⊎_elim (ok admits) (err admits) (taken_or_refused (IsTrueCause d.words) answer (subst (λ (v : Verdict). Applies v (IsTrueCause d.words) answer) admits is.answered))) never
      (decided (verdict (standing_of (live g (shown_of g s))) n))

  pub stands_after : (basis : Basis) → Standing g s basis → Standing g (taking g s d pending broken) basis
  stands_after basis k = by_way (Standing g (taking g s d pending broken) basis)
      (λ admits ok. accepted g bytes s basis k works d n broken admits fits is.went (is.faithful k.faithful) pending
      (more ∙ ap (λ (x : Result Answer Refusal). s.pending ++ if_accepted n x) ok) (joins basis k ok)
      (subst (λ (x : Result Answer Refusal). detect.AsksFor (pools.live g) s.detector n.event (done x) d) ok (is.sets k.faithful admits)))
      (λ admits err. subst (λ (waiting : List Named). Standing g (going.with_detector g bytes s basis k works d waiting broken) basis)
      (sym (more ∙ ap (λ (x : Result Answer Refusal). s.pending ++ if_accepted n x) err.1 ∙ append-nil s.pending))
      (refused g bytes s basis k works d n broken admits fits is.went (is.faithful k.faithful) err.0 (leaves basis k err.0 err.1)
      (subst (λ (x : Result Answer Refusal). detect.AsksFor (pools.live g) s.detector n.event (done x) d) err.1 (is.sets k.faithful admits))))
      (λ never. subst (λ (p : Parts D g). Standing g p basis) (sym (stays never)) k)

  pub is_sound : (capacity : ℕ) → MOST_PENDING ≤ capacity → IsSound g (taking g s d pending broken) capacity
  is_sound capacity least = record {
    lawful = is.lawful;
    few = omega (arith, few, ap (λ (l : List Named). length l) more, length-append s.pending (if_accepted n answer), few_added n answer);
    room = least;
    journals = λ _. sound.journals works;
    fits = λ _. omega (arith, fit, ap (λ (l : List Named). length l) more, length-append s.pending (if_accepted n answer), few_added n answer);
    counting = sound.counting;
    words = λ w. sym told ∙ w;
    checkpointer = λ _. sound.checkpointer works;
    sealed = λ rooting. is.went.sealed (sound.sealed rooting);
    stands = λ honest. let k = sound.stands honest in (k.0, stands_after k.0 k.1);
  }

  -- why it was refused
  of_room_then : (r : Refusal) → answer ≡ Err r → LacksRoom (IsTrueCause d.words) r → IsOfRoom r
  of_room_then r err lacks = of_room d.words r
      (not_broken g s.detector.words d.words is.went r (is.failures ∙ ap (λ (x : Result Answer Refusal). cells.failed_after x (g.failures (pools.disk_of s.detector.words))) err) (sound.words works) lacks) lacks

  works_ok : (a : Result Answer Refusal) → ((a ≡ Err refusal.DeviceFault → ⊥) → broken ≡ false) → OnOk a (broken ≡ false)
  works_ok (Ok v) h = h (λ e. absurd (cc e))
  works_ok (Err r) h = tt

  pub is_done : OfferDone g (shown_of g s) (shown_of g (taking g s d pending broken)) n answer
  is_done = record {
    answer = subst (λ (b : Bool). cond b (answer ≡ Err refusal.Broken) (ByVerdict (verdict (standing_of (live g (shown_of g s))) n) (length s.pending) answer)) (sym works)
        (with_room (verdict (standing_of (live g (shown_of g s))) n) (IsTrueCause d.words) (length s.pending) answer few of_room_then is.answered);
    pending = more;
    same = record { journals = record { journal0 = refl; journal1 = refl; turns = refl }; counted = refl; root0 = refl; root1 = refl; committed = refl; frozen = refl; durable = refl; progress = refl; in_doubt = refl };
    works = works_ok answer (λ other. told ∙ still_works other);
    untouched = λ never. ap (λ (p : Parts D g). shown_of g p) (stays (λ admits. never (record { works = works; accepted = admits; room = few })));
    breaks = λ other. told ∙ still_works other ∙ sym works;
    by_file = λ _. told;
    full = λ (taken : IsTaken g (shown_of g s) n) told. by_way (IsFull d.words) (λ admits ok. absurd (cc (sym ok ∙ told)))
        (λ admits err. is_full d.words err.0 err.2 (cc (sym err.1 ∙ told))) (λ never. absurd (never taken.accepted));
  }

  pub is_offered : (basis : Basis) → Standing g s basis → ContentOffered g (shown_of g s) (shown_of g (taking g s d pending broken)) n answer
  is_offered basis k = record {
    leads = by_way (followed (live g (shown_of g s)) (if_accepted n answer) ≡ Some (detect.content (pools.live g) d))
        (λ admits ok. ap (λ (x : Result Answer Refusal). followed (live g (shown_of g s)) (if_accepted n x)) ok ∙ followed_one (live g (shown_of g s)) n admits ∙ ap (λ (c : Content). Some c) (sym (joins basis k ok)))
        (λ admits err. ap (λ (x : Result Answer Refusal). followed (live g (shown_of g s)) (if_accepted n x)) err.1 ∙ ap (λ (c : Content). Some c) (sym (leaves basis k err.0 err.1)))
        (λ never. ap (λ (l : List Named). followed (live g (shown_of g s)) l) (none_added _ _ n answer is.answered never)
        ∙ ap (λ (x : detect.ShownDetector (pool.ShownPool D)). Some (detect.content (pools.live g) x)) (sym (is.same never)));
    sets = λ (taken : IsTaken g (shown_of g s) n). is.sets k.faithful taken.accepted;
    undamaged = λ (taken : IsTaken g (shown_of g s) n) told. subst (λ (x : Result Answer Refusal). IfErr x (λ r. r ≢ refusal.Damaged)) told (is.undamaged taken.accepted (reads_true g s basis k)) refl;
  }

  pub images : (basis : Basis) → Standing g s basis → StandMeanwhile g (shown_of g s) (shown_of g (taking g s d pending broken)) s.in_doubt
  images basis k = going.images g bytes s basis k works d.words is.went

-- what the test for room tells
pub no_room : {A : Type 0} (b : Bool) → b ≡ false → IsTrue b → A
no_room b is it = absurd (cc (sym is ∙ it))

-- before an event that is accepted there are fewer than 2^58
few_events : (s : standings.Standing) (n : Named) → verdict s n ≡ Accept → s.events < 2 ^ 58
few_events s n accepts = leb-false (2 ^ 58) s.events (no_cause s n accepts).1.1.1.1.1.1.1.1.1.1.1.1.1.1.1.1.0

-- an event that the rules accept is refused where there is no room for it
when_full : (n : Named) (full : Bool) → if_accepted n (cond full (Err refusal.FullPending) (Err refusal.Damaged)) ≡ []
when_full n true = refl
when_full n false = refl

no_call_when_full : (full : Bool) (failures : ℕ) → journals.failed_after {T = Answer} (cond full (Err refusal.FullPending) (Err refusal.Damaged)) failures ≡ failures
no_call_when_full true failures = refl
no_call_when_full false failures = refl

of_room_when_full : (full : Bool) (result : Result Answer Refusal) → result ≡ cond full (Err refusal.FullPending) (Err refusal.Damaged)
    → cond full (result ≡ Err refusal.FullPending) ((result ≡ Ok Accepted) ⊎ ((r : Refusal) × (result ≡ Err r) × IsOfRoom r))
of_room_when_full true result told = told
of_room_when_full false result told = inr (refusal.Damaged, told, inr (inr (inr (inl refl))))

full_slots_when_full : {A : Type 0} (full : Bool) → ◌≡◌ {A = Result Answer Refusal} (cond full (Err refusal.FullPending) (Err refusal.Damaged)) (Err refusal.FullSlots) → A
full_slots_when_full true told = absurd (cc told)
full_slots_when_full false told = absurd (cc told)

module _ {D : Type 0} (g : disk.Ghosts D) (s : ShownStore D) (n : Named) (result : Result Answer Refusal) (works : s.is_broken ≡ false) (never : HasRoom s → ⊥) (by : IsAnsweredWhenFull g s n result) where
  nothing_joins : (v : Verdict) → IsRefusedWhenFull v (length s.pending) result → if_accepted n result ≡ []
  nothing_joins Accept told = ap (λ (x : Result Answer Refusal). if_accepted n x) told ∙ when_full n (nat_le MOST_PENDING (length s.pending))
  nothing_joins (verdicts.Duplicate k) told = ap (λ (x : Result Answer Refusal). if_accepted n x) told
  nothing_joins (verdicts.Refuse r) told = ap (λ (x : Result Answer Refusal). if_accepted n x) told

  no_call : (v : Verdict) → verdict (standing_of (live g s)) n ≡ v → IsRefusedWhenFull v (length s.pending) result → (failures : ℕ) → journals.failed_after result failures ≡ failures
  no_call Accept is told failures = ap (λ (x : Result Answer Refusal). journals.failed_after x failures) told ∙ no_call_when_full (nat_le MOST_PENDING (length s.pending)) failures
  no_call (verdicts.Duplicate k) is told failures = ap (λ (x : Result Answer Refusal). journals.failed_after x failures) told
  no_call (verdicts.Refuse r) is told failures = ap (λ (x : Result Answer Refusal). journals.failed_after x failures) told ∙ rules_call_nothing (standing_of (live g s)) n r failures is

  at_full : (v : Verdict) → IsRefusedWhenFull v (length s.pending) result → ByVerdict v (length s.pending) result
  at_full Accept told = of_room_when_full (nat_le MOST_PENDING (length s.pending)) result told
  at_full (verdicts.Duplicate k) told = told
  at_full (verdicts.Refuse r) told = told

  -- slots are never told to be lacking
  no_slots : {A : Type 0} (v : Verdict) → v ≡ Accept → IsRefusedWhenFull v (length s.pending) result → result ≡ Err refusal.FullSlots → A
  no_slots Accept is told slots = full_slots_when_full (nat_le MOST_PENDING (length s.pending)) (sym told ∙ slots)
  no_slots (verdicts.Duplicate k) is told slots = absurd (cc is)
  no_slots (verdicts.Refuse r) is told slots = absurd (cc is)

  -- a store without room for one more pending event, where an event was offered
  pub full_is_done : pools.is_broken (words s) ≡ false → OfferDone g s s n result
  full_is_done file = record {
    answer = subst (λ (b : Bool). cond b (result ≡ Err refusal.Broken) (ByVerdict (verdict (standing_of (live g s)) n) (length s.pending) result)) (sym works) (at_full _ by);
    pending = sym (ap (λ (l : List Named). s.pending ++ l) (nothing_joins _ by) ∙ append-nil s.pending);
    same = record { journals = record { journal0 = refl; journal1 = refl; turns = refl }; counted = refl; root0 = refl; root1 = refl; committed = refl; frozen = refl; durable = refl; progress = refl; in_doubt = refl };
    works = works_then result;
    untouched = λ _. refl;
    breaks = λ _. refl;
    by_file = λ _. works ∙ sym file;
    full = λ taken told. no_slots _ taken.accepted by told;
  }
    where
      works_then : (a : Result Answer Refusal) → OnOk a (s.is_broken ≡ false)
      works_then (Ok v) = works
      works_then (Err r) = tt

  -- over honest devices the journals have a number for each event that the rules accept
  not_taken : {A : Type 0} → HasItsEvents g s → HasCounted g s → IsTaken g s n → A
  not_taken events counted taken =
      let few = few_events (standing_of (live g s)) n taken.accepted in
      let last = events.last in
      absurd (never (record { few = taken.room; fits = omega (arith, few, last, counted) }))

  pub full_is_offered : HasItsEvents g s → HasCounted g s → ContentOffered g s s n result
  full_is_offered events counted = record {
    leads = ap (λ (l : List Named). followed (live g s) l) (nothing_joins _ by);
    sets = λ taken. not_taken events counted taken;
    undamaged = λ taken. not_taken events counted taken;
  }

  pub full_calls_nothing : FailuresBecome g s.devices s.devices (journals.failed_after result)
  full_calls_nothing = sym (no_call _ refl by (failures_of g s.devices))
