-- One line of a trace text that is fed to a store.
use Rattle.std.proofs.Common.{◌≡◌, ◌⊎◌, ℕ, suc, ◌+◌, ◌-◌, ◌%◌, ◌<◌, ◌≤◌, Bool, true, false, cond, nat_eq, List, [], ◌∷◌, ◌++◌, length, IsTrue, IfErr, Option, Some, None, Result, Ok, Err, refl, sym, ap, ◌∙◌, subst, inl, inr, ⊎_elim, arith, if◌then◌else◌}
use Rattle.std.proofs.lemmas.Bool.{lt-leb}
use Rattle.std.proofs.lemmas.List.{append-nil, append_assoc}
use Rattle.hg_streams.specs.declared.call.WriteCall.{WriteCall}
use Rattle.hg_streams.specs.Written.{Took, TookFront}
use Rattle.std.specs.Option.{option_and_then}
use Rattle.hg_model.specs.declared.event.Event.{Event}
use Rattle.hg_model.specs.declared.event.Named.{Named}
use Rattle.hg_model.specs.declared.verdict.Refusal.{Refusal}
use Rattle.hg_model.specs.declared.verdict.Refusal.TheVariants as refusal
use Rattle.hg_model.specs.declared.verdict.Verdict.{Verdict}
use Rattle.hg_model.specs.declared.verdict.Verdict.TheVariants.{Accept, Duplicate, Refuse}
use Rattle.hg_model.specs.Contents.{Content}
use Rattle.hg_model.specs.Change.{after, followed, is_accept}
use Rattle.hg_model.specs.Verdicts.{standing_of, verdict}
use Rattle.hg_sets.specs.Interning.{Table}
use Rattle.hg_detect.specs.Making.{Asks, sets_asked, AsksBy}
use Rattle.hg_detect.specs.declared.detector.Answer.{Answer}
use Rattle.hg_detect.specs.declared.detector.Answer.TheVariants as answer
use Rattle.hg_detect.specs.Shown as detect
use Rattle.hg_disk.specs.declared.disk.Disk as disk
use Rattle.hg_pool.specs.Maps as pools
use Rattle.hg_pool.specs.Shown as pool
use Rattle.hg_store.specs.Shown.{Progress, ShownStore, live}
use Rattle.hg_store.specs.Steps.{ByVerdict, IsOfRoom, IsTaken, if_accepted}
use Rattle.hg_wire.specs.declared.line.LineFault.{LineFault}
use Rattle.hg_wire.specs.declared.reader.Reading.{Reading}
use Rattle.hg_reading.specs.declared.ending.Ending.{Ending}
use Rattle.hg_reading.specs.declared.ending.Ending.TheVariants.{Ended, Refused, Bad}
use Rattle.hg_commands.specs.declared.lines.Fed.{Fed}
use Rattle.hg_commands.specs.Feeding.{Answers, FeedsTo, HasRoom, IsOffered, ack_text, acks_text, sent}
use Rattle.hg_commands.specs.Storing.{failed_calls}
use Rattle.hg_commands.specs.FeedFaults.{IsLineFault}
use Rattle.hg_commands.specs.FeedRunning.{BreaksAt, EndsAt, EndsLine, IsEventFault, IsPrinted, IsReady, LeadsOn, Passes, Place, StaysOnWay, WasCounted, WasSent, WentWell, content_at, place, table_at}
use Rattle.hg_commands.specs.TakingLaws.{quiet_still, quiet_then}
use Rattle.hg_streams.specs.Told.{told, told_refusal}
use Rattle.hg_streams.proofs.Printed.{appends_on, front_more}
use Rattle.hg_streams.specs.Printed.{IsPrintedNow}
use Rattle.hg_streams.proofs.Fronts.{printed_front_on}
use Rattle.hg_commands.proofs.GivingUp.{quiet_offer}
use Rattle.hg_commands.proofs.Ruling.{rules_find_no_damage, rules_find_none_broken}
use Rattle.hg_commands.proofs.Fronts.{acks_front, feeds_grow, printed_grown}
use Rattle.hg_detect.proofs.Asking.{asks_not_both, asks_same}

-- what an answered offer says of the verdict

accepted_verdict : (v : Verdict) (pending : ℕ) → ByVerdict v pending (Ok answer.Accepted) → v ≡ Accept
accepted_verdict Accept pending h = refl
accepted_verdict (Duplicate k) pending h = absurd (cc)
accepted_verdict (Refuse r) pending h = absurd (cc)

by_verdict : (broken : Bool) (v : Verdict) (pending : ℕ) (r : Result Answer Refusal) → broken ≡ false
    → cond broken (r ≡ Err refusal.Broken) (ByVerdict v pending r) → ByVerdict v pending r
by_verdict broken v pending r works h = subst (λ b. cond b (r ≡ Err refusal.Broken) (ByVerdict v pending r)) works h

one_of_two : {A B C : Type 0} (b : Bool) → cond b A B → (A → C) → (B → C) → C
one_of_two true h left right = left h
one_of_two false h left right = right h

never_full : (pending : ℕ) (r : Result Answer Refusal) → pending < 1024 → ByVerdict Accept pending r → (r ≡ Ok answer.Accepted) ⊎ ((x : Refusal) × (r ≡ Err x) × IsOfRoom x)
never_full pending r few h = subst (λ b. cond b (r ≡ Err refusal.FullPending) ((r ≡ Ok answer.Accepted) ⊎ ((x : Refusal) × (r ≡ Err x) × IsOfRoom x))) (lt-leb 1024 pending few) h

-- one accepted event is followed by the content after it
one_after : (v : Verdict) (c d e : Content) → v ≡ Accept → option_and_then (λ x. Some x) (if is_accept v then Some e else None) ≡ Some d → d ≡ e
one_after Accept c d e accept h = cc
one_after (Duplicate k) c d e accept h = absurd (cc)
one_after (Refuse r) c d e accept h = absurd (cc)

same_some : (c d : Content) → ◌≡◌ {A = Option Content} (Some c) (Some d) → d ≡ c
same_some c d h = cc

-- a line more of commits, where it is the 256th
acks_on : (events n m total : ℕ) → m ≡ n + 1 → total ≡ events + m → acks_text events m ≡ acks_text events n ++ (if nat_eq (m % 256) 0 then ack_text total else [])
acks_on events n m total next sum =
    let is : m ≡ suc n = omega (arith, next) in
    subst (λ (k : ℕ). acks_text events m ≡ acks_text events n ++ (if nat_eq (m % 256) 0 then ack_text k else [])) (sym sum)
    (subst (λ (k : ℕ). acks_text events k ≡ acks_text events n ++ (if nat_eq (k % 256) 0 then ack_text (events + k) else [])) (sym is) refl)

-- feeding from equal places
pub feeds_same : (later : List Reading) (last : Content) (end : Ending) (s t : ℕ) (v w : Table) (c d : Content) (k l : ℕ) → s ≡ t → v ≡ w → c ≡ d → k ≡ l → FeedsTo s later v c k last end → FeedsTo t later w d l last end
feeds_same later last end s t v w c d k l source table content number h =
    subst (λ (x : ℕ). FeedsTo x later w d l last end) source
    (subst (λ (x : Table). FeedsTo s later x d l last end) table
    (subst (λ (x : Content). FeedsTo s later v x l last end) content
    (subst (λ (x : ℕ). FeedsTo s later v c x last end) number h)))

-- what an accepted event led to is what is led to from behind it
accepted_back : (t new : Table) (c last : Content) (n : Named) (line : ℕ) (later : Table → Content → Type 0) (end : Ending) → HasRoom end → Asks t (sets_asked c n.event) None new
    → Answers Accept t c n line later last end → later new (after c n)
accepted_back t new c last n line later end space sets h =
    ⊎_elim
    (λ room. ⊎_elim
    (λ went. subst (λ (u : Table). later u (after c n)) (asks_same (sets_asked c n.event) t room.0 new went.0 sets) went.1)
    (λ full. absurd (asks_not_both (sets_asked c n.event) t new room.0 sets full.0))
    room.1)
    (λ none. absurd (space line none.1))
    h

-- an event that was offered and accepted, and counted

record IsAfter {D : Type 0} (g : disk.Ghosts D) (old new : Place D) (n : Named) : Type 0 where
  accept : verdict (standing_of (content_at g old)) n ≡ Accept
  content : content_at g new ≡ after (content_at g old) n
  sets : Asks (table_at old) (sets_asked (content_at g old) n.event) None (table_at new)

-- what room is refused for is no broken store
no_room_is_broken : (r : Refusal) → IsOfRoom r → r ≡ refusal.Broken → ⊥
no_room_is_broken r (inl sets) broken = absurd (cc)
no_room_is_broken r (inr (inl memory)) broken = absurd (cc)
no_room_is_broken r (inr (inr (inl slots))) broken = absurd (cc)
no_room_is_broken r (inr (inr (inr (inl damaged)))) broken = absurd (cc)
no_room_is_broken r (inr (inr (inr (inr device)))) broken = absurd (cc)

module _ {D : Type 0} (g : disk.Ghosts D) where
  -- what was counted, whatever the content is
  record IsCountedOn (f j : Fed) : Type 0 where
    source : j.source ≡ f.source
    number : j.number ≡ f.number + 1
    accepted : j.accepted ≡ f.accepted + 1

  counted_on : (s m t : ShownStore D) (f i j : Fed) (e : Event) (o p : List WriteCall) (r : Result Answer Refusal) → WasSent g s m f i e r → WasCounted g (place m i o) (place t j p) → IsCountedOn f j
  counted_on s m t f i j e o p r was counted = record {
    source = ap (λ (x : Fed). x.source) counted.fed ∙ ap (λ (x : Fed). x.source) was.fed;
    number = ap (λ (x : Fed). x.number) counted.fed ∙ ap (λ (x : Fed). x.number) was.fed;
    accepted = ap (λ (x : Fed). x.accepted) counted.fed ∙ ap (λ (x : Fed). x.accepted + 1) was.fed;
  }

  is_after : IsTrue g.is_honest → (s m t : ShownStore D) (f i j : Fed) (e : Event) (o p : List WriteCall) → IsReady s f → length s.pending < 1024 → WasSent g s m f i e (Ok answer.Accepted) → WasCounted g (place m i o) (place t j p)
      → IsAfter g (place s f o) (place t j p) (sent f.source f.number e)
  is_after honest s m t f i j e o p ready few was counted =
      let c = live g s in
      let n = sent f.source f.number e in
      let accept = accepted_verdict (verdict (standing_of c) n) (length s.pending) (by_verdict s.is_broken (verdict (standing_of c) n) (length s.pending) (Ok answer.Accepted) ready.works was.done.answer) in
      let taken : IsTaken g s n = record { works = ready.works; accepted = accept; room = few } in
      record {
        accept = accept;
        content = ap (λ (d : detect.ShownDetector (pool.ShownPool D)). detect.content (pools.live g) d) counted.detector ∙ one_after (verdict (standing_of c) n) c (live g m) (after c n) accept (was.content honest).leads;
        sets = subst (λ (d : detect.ShownDetector (pool.ShownPool D)). Asks s.detector.sets (sets_asked c e) None d.sets) (sym counted.detector) ((was.content honest).sets taken);
      }

  prints_on : (s m t : ShownStore D) (f i j : Fed) (e : Event) (o p : List WriteCall) → WasSent g s m f i e (Ok answer.Accepted) → WasCounted g (place m i o) (place t j p) → IsAfter g (place s f o) (place t j p) (sent f.source f.number e)
      → (first : List WriteCall) (front : List ℕ) (events : ℕ) → IsPrinted g first front events (place s f o) → IsPrinted g first front events (place t j p)
  prints_on s m t f i j e o p was counted is first front events h =
      let on = counted_on s m t f i j e o p (Ok answer.Accepted) was counted in
      let total : (live g t).events ≡ (live g s).events + 1 = ap (λ (c : Content). c.events) is.content in
      let sum : (live g t).events ≡ events + j.accepted = omega (arith, total, h.count, on.accepted) in
      let same : i.accepted + 1 ≡ j.accepted = sym (ap (λ (x : Fed). x.accepted) counted.fed) in
      record {
        count = sum;
        printed = subst (λ (t : List ℕ). Took first p t)
            (append_assoc front (acks_text events f.accepted) (if nat_eq (j.accepted % 256) 0 then ack_text (live g t).events else [])
            ∙ ap (λ (t : List ℕ). front ++ t) (sym (acks_on events f.accepted j.accepted (live g t).events on.accepted sum)))
            (appends_on first o p (front ++ acks_text events f.accepted) (if nat_eq (j.accepted % 256) 0 then ack_text (live g t).events else []) h.printed
            (subst (λ (k : ℕ). Took o p (if nat_eq (k % 256) 0 then ack_text (live g t).events else [])) same
            (subst (λ (k : ℕ). Took o p (if nat_eq ((i.accepted + 1) % 256) 0 then ack_text k else [])) (sym (ap (λ (d : detect.ShownDetector (pool.ShownPool D)). (detect.content (pools.live g) d).events) counted.detector)) counted.printed)));
      }

  few_pending : (s : ShownStore D) (f : Fed) → IsReady s f → length s.pending < 1024
  few_pending s f ready = omega (arith, ready.pending)

  pub passes_accepted : (s m t : ShownStore D) (f i j : Fed) (e : Event) (o p : List WriteCall) (reading : Reading) → reading.event ≡ Ok e → IsReady s f → WasSent g s m f i e (Ok answer.Accepted) → WasCounted g (place m i o) (place t j p)
      → Passes g (place s f o) (place t j p) reading
  passes_accepted s m t f i j e o p reading event ready was counted =
      let on = counted_on s m t f i j e o p (Ok answer.Accepted) was counted in
      let few = few_pending s f ready in
      let is = λ (honest : IsTrue g.is_honest). is_after honest s m t f i j e o p ready few was counted in
      record {
        goes = record {
          source = on.source;
          failures = omega (arith, counted.failures, was.failures);
          quiet = quiet_then s m t (quiet_offer s m was.done.same) counted.quiet;
          printed = λ honest. prints_on s m t f i j e o p was counted (is honest);
          ready = record {
            works = counted.works;
            phase = ap (λ (x : Progress). x.phase) (counted.progress ∙ was.done.same.progress) ∙ ready.phase;
            pending = counted.pending ∙ ap (λ (k : ℕ). k % 256) (sym (ap (λ (x : Fed). x.accepted) counted.fed));
            few = omega (arith, ready.few, on.accepted, on.number);
          };
        };
        number = on.number;
        leads = λ honest later last end h.
            subst (λ x. IsOffered x f.source s.detector.sets (live g s) f.number reading.line (λ t d. FeedsTo f.source later t d (f.number + 1) last end) last end) (sym event)
            (subst (λ v. Answers v s.detector.sets (live g s) (sent f.source f.number e) reading.line (λ t d. FeedsTo f.source later t d (f.number + 1) last end) last end) (sym (is honest).accept) (inl (
              t.detector.sets,
              inl (
                (is honest).sets,
                feeds_same later last end j.source f.source t.detector.sets t.detector.sets (live g t) (after (live g s) (sent f.source f.number e)) j.number (f.number + 1) on.source refl (is honest).content on.number h,
              ),
            )));
        back = λ honest later last end room h.
            feeds_same later last end f.source j.source t.detector.sets t.detector.sets (after (live g s) (sent f.source f.number e)) (live g t) (f.number + 1) j.number (sym on.source) refl (sym (is honest).content) (sym on.number)
            (accepted_back s.detector.sets t.detector.sets (live g s) last (sent f.source f.number e) reading.line (λ t d. FeedsTo f.source later t d (f.number + 1) last end) end room (is honest).sets
            (subst (λ v. Answers v s.detector.sets (live g s) (sent f.source f.number e) reading.line (λ t d. FeedsTo f.source later t d (f.number + 1) last end) last end) (is honest).accept
            (subst (λ x. IsOffered x f.source s.detector.sets (live g s) f.number reading.line (λ t d. FeedsTo f.source later t d (f.number + 1) last end) last end) event h)));
      }

  -- an answer that accepts nothing changes no content
  record IsUnchanged (f i : Fed) : Type 0 where
    source : i.source ≡ f.source
    number : i.number ≡ f.number + 1
    accepted : i.accepted ≡ f.accepted

  is_unchanged : (s m : ShownStore D) (f i : Fed) (e : Event) (r : Result Answer Refusal) → WasSent g s m f i e r → IsUnchanged f i
  is_unchanged s m f i e r was = record {
    source = ap (λ (x : Fed). x.source) was.fed;
    number = ap (λ (x : Fed). x.number) was.fed;
    accepted = ap (λ (x : Fed). x.accepted) was.fed;
  }

  same_content : IsTrue g.is_honest → (s m : ShownStore D) (f i : Fed) (e : Event) (r : Result Answer Refusal) → if_accepted (sent f.source f.number e) r ≡ [] → WasSent g s m f i e r → live g m ≡ live g s
  same_content honest s m f i e r nothing was =
      same_some (live g s) (live g m) (subst (λ (xs : List Named). followed (live g s) xs ≡ Some (live g m)) nothing (was.content honest).leads)

  unchanged_goes : (s m : ShownStore D) (f i : Fed) (e : Event) (r : Result Answer Refusal) (o : List WriteCall) → if_accepted (sent f.source f.number e) r ≡ [] → told r ≡ 0 → m.is_broken ≡ s.is_broken → IsReady s f → WasSent g s m f i e r
      → WentWell g (place s f o) (place m i o)
  unchanged_goes s m f i e r o nothing none works ready was =
      let is = is_unchanged s m f i e r was in
      record {
        source = is.source;
        failures = omega (arith, was.failures, none);
        quiet = quiet_offer s m was.done.same;
        printed = λ honest first front events h. record {
          count = omega (arith, ap (λ (c : Content). c.events) (same_content honest s m f i e r nothing was), h.count, is.accepted);
          printed = subst (λ (k : ℕ). Took first o (front ++ acks_text events k)) (sym is.accepted) h.printed;
        };
        ready = record {
          works = works ∙ ready.works;
          phase = ap (λ (x : Progress). x.phase) was.done.same.progress ∙ ready.phase;
          pending = ap (λ (xs : List Named). length xs) (was.done.pending ∙ ap (λ (xs : List Named). s.pending ++ xs) nothing ∙ append-nil s.pending) ∙ (ready.pending ∙ ap (λ (k : ℕ). k % 256) (sym is.accepted));
          few = omega (arith, ready.few, is.accepted, is.number);
        };
      }

  not_err : (k : ℕ) (x : Refusal) → ◌≡◌ {A = Result Answer Refusal} (Ok (answer.Duplicate k)) (Err x) → ⊥
  not_err k x h = absurd (cc)

  passed_over : (v : Verdict) (pending k line : ℕ) (table : Table) (c : Content) (n : Named) (later : Table → Content → Type 0) (last : Content) (end : Ending) → pending < 1024 → ByVerdict v pending (Ok (answer.Duplicate k))
      → later table c → Answers v table c n line later last end
  passed_over Accept pending k line table c n later last end few h on =
      ⊎_elim (λ a. absurd (cc)) (λ b. absurd (not_err k b.0 b.1)) (never_full pending (Ok (answer.Duplicate k)) few h)
  passed_over (Duplicate j) pending k line table c n later last end few h on = on
  passed_over (Refuse r) pending k line table c n later last end few h on = absurd (cc)

  passed_back : (v : Verdict) (pending k line : ℕ) (table : Table) (c : Content) (n : Named) (later : Table → Content → Type 0) (last : Content) (end : Ending) → pending < 1024 → ByVerdict v pending (Ok (answer.Duplicate k))
      → Answers v table c n line later last end → later table c
  passed_back Accept pending k line table c n later last end few h on =
      ⊎_elim (λ a. absurd (cc)) (λ b. absurd (not_err k b.0 b.1)) (never_full pending (Ok (answer.Duplicate k)) few h)
  passed_back (Duplicate j) pending k line table c n later last end few h on = on
  passed_back (Refuse r) pending k line table c n later last end few h on = absurd (cc)

  -- an event that was sent before is not taken up
  not_taken : (s : ShownStore D) (n : Named) (k : ℕ) → ByVerdict (verdict (standing_of (live g s)) n) (length s.pending) (Ok (answer.Duplicate k)) → length s.pending < 1024 → ¬ IsTaken g s n
  not_taken s n k h few taken =
      let accepted : ByVerdict Accept (length s.pending) (Ok (answer.Duplicate k)) = subst (λ v. ByVerdict v (length s.pending) (Ok (answer.Duplicate k))) taken.accepted h in
      ⊎_elim (λ a. absurd (cc)) (λ b. absurd (not_err k b.0 b.1)) (never_full (length s.pending) (Ok (answer.Duplicate k)) few accepted)

  pub passes_duplicate : (s m : ShownStore D) (f i : Fed) (e : Event) (k : ℕ) (o : List WriteCall) (reading : Reading) → reading.event ≡ Ok e → IsReady s f → WasSent g s m f i e (Ok (answer.Duplicate k))
      → Passes g (place s f o) (place m i o) reading
  passes_duplicate s m f i e k o reading event ready was =
      let is = is_unchanged s m f i e (Ok (answer.Duplicate k)) was in
      let c = live g s in
      let n = sent f.source f.number e in
      let few = few_pending s f ready in
      let told_so = by_verdict s.is_broken (verdict (standing_of c) n) (length s.pending) (Ok (answer.Duplicate k)) ready.works was.done.answer in
      let same : m ≡ s = was.done.untouched (not_taken s n k told_so few) in
      let sets : m.detector.sets ≡ s.detector.sets = ap (λ (x : ShownStore D). x.detector.sets) same in
      let content : live g m ≡ c = ap (λ (x : ShownStore D). live g x) same in
      record {
        goes = unchanged_goes s m f i e (Ok (answer.Duplicate k)) o refl refl (ap (λ (x : ShownStore D). x.is_broken) same) ready was;
        number = is.number;
        leads = λ honest later last end h.
            subst (λ x. IsOffered x f.source s.detector.sets c f.number reading.line (λ t d. FeedsTo f.source later t d (f.number + 1) last end) last end) (sym event)
            (passed_over (verdict (standing_of c) n) (length s.pending) k reading.line s.detector.sets c n (λ t d. FeedsTo f.source later t d (f.number + 1) last end) last end few told_so
            (feeds_same later last end i.source f.source m.detector.sets s.detector.sets (live g m) c i.number (f.number + 1) is.source sets content is.number h));
        back = λ honest later last end room h.
            feeds_same later last end f.source i.source s.detector.sets m.detector.sets c (live g m) (f.number + 1) i.number (sym is.source) (sym sets) (sym content) (sym is.number)
            (passed_back (verdict (standing_of c) n) (length s.pending) k reading.line s.detector.sets c n (λ t d. FeedsTo f.source later t d (f.number + 1) last end) last end few told_so
            (subst (λ x. IsOffered x f.source s.detector.sets c f.number reading.line (λ t d. FeedsTo f.source later t d (f.number + 1) last end) last end) event h));
      }

  error_is : (y z : Refusal) → ◌≡◌ {A = Result Answer Refusal} (Err y) (Err z) → y ≡ z
  error_is y z h = cc

  -- what the words are refused with is a fault, but for want of slots
  by_slots : (r : Refusal) → (r ≡ refusal.FullSlots) ⊎ ((r ≡ refusal.Damaged) ⊎ (r ≡ refusal.DeviceFault)) → (r ≡ refusal.FullSlots) ⊎ IsEventFault r
  by_slots r (inl slots) = inl slots
  by_slots r (inr (inl damaged)) = inr (inr (inr (inl damaged)))
  by_slots r (inr (inr device)) = inr (inr (inl device))

  refused_by : (v : Verdict) (pending line : ℕ) (table left : Table) (c last : Content) (n : Named) (r : Refusal) (later : Table → Content → Type 0) → pending < 1024 → ByVerdict v pending (Err r) → (IsEventFault r → ⊥)
      → (v ≡ Accept → AsksBy table (sets_asked c n.event) (Err r) left) → last ≡ c → Answers v table c n line later last (Refused line r)
  refused_by Accept pending line table left c last n r later few h enough fills same =
      ⊎_elim (λ a. absurd (cc))
      (λ b. let is = error_is r b.0 b.1 in
      ⊎_elim
      (λ full. let sets = is ∙ full in
      inl (left, inr (subst (λ x. AsksBy table (sets_asked c n.event) (Err x) left) sets (fills refl), (same, ap (λ x. Refused line x) sets))))
      (λ more. ⊎_elim
      (λ memory. absurd (enough (inl (is ∙ memory))))
      (λ may. ⊎_elim
      (λ slots. inr (same, ap (λ x. Refused line x) (is ∙ slots)))
      (λ fault. absurd (enough (subst IsEventFault (sym is) fault)))
      (by_slots b.0 may))
      more)
      b.2)
      (never_full pending (Err r) few h)
  refused_by (Duplicate j) pending line table left c last n r later few h enough fills same = absurd (cc)
  refused_by (Refuse x) pending line table left c last n r later few h enough fills same = (same, ap (λ y. Refused line y) (error_is r x h))

  ended_is : {x y : Ending} → ◌≡◌ {A = Result (Option Ending) Refusal} (Ok (Some x)) (Ok (Some y)) → x ≡ y
  ended_is h = cc

  never : (r : Refusal) (end : Ending) → ◌≡◌ {A = Result (Option Ending) Refusal} (Err r) (Ok (Some end)) → ⊥
  never r end h = absurd (cc)

  -- a refusal that is no fault tells of no failed call
  none_told : (r : Refusal) → (IsEventFault r → ⊥) → told_refusal r ≡ 0
  none_told refusal.DeviceFault not = absurd (not (inr (inl refl)))
  none_told _ not = refl

  pub ends_refused : (s m : ShownStore D) (f i : Fed) (e : Event) (r : Refusal) (o : List WriteCall) (reading : Reading) (given : Result (Option Ending) Refusal) (end : Ending)
      → reading.event ≡ Ok e → IsReady s f → WasSent g s m f i e (Err r) → EndsLine reading.line r given → given ≡ Ok (Some end) → EndsAt g (place s f o) (place m i o) reading end
  ends_refused s m f i e r o reading given end event ready was stops given_end =
      ⊎_elim
      (λ fault. absurd (never r end (sym fault.1 ∙ given_end)))
      (λ other. ends_so s m f i e r o reading end event ready was other.0 (ended_is (sym other.1 ∙ given_end)))
      stops
    where
      ends_so : (s m : ShownStore D) (f i : Fed) (e : Event) (r : Refusal) (o : List WriteCall) (reading : Reading) (end : Ending)
          → reading.event ≡ Ok e → IsReady s f → WasSent g s m f i e (Err r) → (IsEventFault r → ⊥) → Refused reading.line r ≡ end → EndsAt g (place s f o) (place m i o) reading end
      ends_so s m f i e r o reading end event ready was not is =
          let c = live g s in
          let n = sent f.source f.number e in
          let told_so = by_verdict s.is_broken (verdict (standing_of c) n) (length s.pending) (Err r) ready.works was.done.answer in
          let few = few_pending s f ready in
          record {
            goes = unchanged_goes s m f i e (Err r) o refl (none_told r not) (was.done.breaks (λ h. not (inr (inl (error_is r refusal.DeviceFault h))))) ready was;
            leads = λ honest later.
                subst (λ x. IsOffered x f.source s.detector.sets c f.number reading.line (λ t d. FeedsTo f.source later t d (f.number + 1) (live g m) end) (live g m) end) (sym event)
                (subst (λ x. Answers (verdict (standing_of c) n) s.detector.sets c n reading.line (λ t d. FeedsTo f.source later t d (f.number + 1) (live g m) x) (live g m) x) is
                (refused_by (verdict (standing_of c) n) (length s.pending) reading.line s.detector.sets m.detector.sets c (live g m) n r
                (λ t d. FeedsTo f.source later t d (f.number + 1) (live g m) (Refused reading.line r)) few told_so not
                (λ accept. (was.content honest).sets (record { works = ready.works; accepted = accept; room = few })) (same_content honest s m f i e (Err r) refl was)));
          }

  -- an event that is refused for a fault of the store is one that the rules accept
  of_room : (v : Verdict) (pending : ℕ) (r : Refusal) → pending < 1024 → ByVerdict v pending (Err r) → (v ≡ Refuse r → ⊥) → (v ≡ Accept) × IsOfRoom r
  of_room Accept pending r few h by_rules =
      ⊎_elim (λ a. absurd (cc)) (λ b. (refl, subst IsOfRoom (sym (error_is r b.0 b.1)) b.2)) (never_full pending (Err r) few h)
  of_room (Duplicate k) pending r few h by_rules = absurd (cc)
  of_room (Refuse x) pending r few h by_rules = absurd (by_rules (ap (λ (y : Refusal). Refuse y) (sym (error_is r x h))))

  -- a refusal that ends feeding by a fault is one of the few
  event_fault : (s m : ShownStore D) (f i : Fed) (e : Event) (r : Refusal) → IsReady s f → WasSent g s m f i e (Err r) → IsEventFault r → IsLineFault g r
  event_fault s m f i e r ready was (inl memory) = inl (inl memory)
  event_fault s m f i e r ready was (inr (inl device)) = inl (inr device)
  event_fault s m f i e r ready was (inr (inr (inl damaged))) =
      let n = sent f.source f.number e in
      let few = few_pending s f ready in
      let told_so = by_verdict s.is_broken (verdict (standing_of (live g s)) n) (length s.pending) (Err r) ready.works was.done.answer in
      let accept = of_room (verdict (standing_of (live g s)) n) (length s.pending) r few told_so (λ is. rules_find_no_damage (standing_of (live g s)) n (is ∙ ap (λ (x : Refusal). Refuse x) damaged)) in
      inr (damaged, λ honest. (was.content honest).undamaged (record { works = ready.works; accepted = accept.0; room = few }) (ap (λ (x : Refusal). Err x) damaged))
  event_fault s m f i e r ready was (inr (inr (inr broken))) =
      let n = sent f.source f.number e in
      let told_so = by_verdict s.is_broken (verdict (standing_of (live g s)) n) (length s.pending) (Err r) ready.works was.done.answer in
      let accept = of_room (verdict (standing_of (live g s)) n) (length s.pending) r (few_pending s f ready) told_so (λ is. rules_find_none_broken (standing_of (live g s)) n (is ∙ ap (λ (x : Refusal). Refuse x) broken)) in
      absurd (no_room_is_broken r accept.1 broken)

  pub fault_is_told : (s m : ShownStore D) (f i : Fed) (e : Event) (line : ℕ) (r : Refusal) (given : Result (Option Ending) Refusal) → IsReady s f → WasSent g s m f i e (Err r) → EndsLine line r given → IfErr given (IsLineFault g)
  fault_is_told s m f i e line r given ready was stops =
      ⊎_elim
      (λ fault. subst (λ x. IfErr x (IsLineFault g)) (sym fault.1) (event_fault s m f i e r ready was fault.0))
      (λ other. subst (λ x. IfErr x (IsLineFault g)) (sym other.1) tt)
      stops

  -- what is told of a refusal that ends feeding by a fault
  pub fault_counted : (s m : ShownStore D) (f i : Fed) (e : Event) (o : List WriteCall) (line : ℕ) (r : Refusal) (given : Result (Option Ending) Refusal) → WasSent g s m f i e (Err r) → EndsLine line r given
      → failed_calls g m.devices o ≡ told given + failed_calls g s.devices o
  fault_counted s m f i e o line r given was stops =
      ⊎_elim
      (λ fault. omega (arith, was.failures, ap told fault.1))
      (λ other. omega (arith, was.failures, none_told r other.0, ap told other.1))
      stops

  -- a place is as good as itself
  pub stays_there : (p : Place D) → IsReady p.store p.fed → WentWell g p p
  stays_there p ready = record {
    source = refl;
    failures = refl;
    quiet = quiet_still p.store;
    printed = λ honest first front events h. h;
    ready = ready;
  }

  pub goes_on : (p q r : Place D) → WentWell g p q → WentWell g q r → WentWell g p r
  goes_on p q r first second = record {
    source = second.source ∙ first.source;
    failures = second.failures ∙ first.failures;
    quiet = quiet_then p.store q.store r.store first.quiet second.quiet;
    printed = λ honest start front events h. second.printed honest start front events (first.printed honest start front events h);
    ready = second.ready;
  }

  pub ends_bad : (s : ShownStore D) (f : Fed) (o : List WriteCall) (reading : Reading) (fault : LineFault) → reading.event ≡ Err fault → IsReady s f → EndsAt g (place s f o) (place s f o) reading (Bad reading.line)
  ends_bad s f o reading fault event ready = record {
    goes = stays_there (place s f o) ready;
    leads = λ honest later.
        subst (λ x. IsOffered x f.source s.detector.sets (live g s) f.number reading.line (λ t d. FeedsTo f.source later t d (f.number + 1) (live g s) (Bad reading.line)) (live g s) (Bad reading.line)) (sym event)
        (refl, refl);
  }

  -- an event that was accepted
  record IsTakenUp (s m : ShownStore D) (n : Named) : Type 0 where
    accept : verdict (standing_of (live g s)) n ≡ Accept
    content : live g m ≡ after (live g s) n
    sets : Asks s.detector.sets (sets_asked (live g s) n.event) None m.detector.sets

  taken_up : IsTrue g.is_honest → (s m : ShownStore D) (f i : Fed) (e : Event) → IsReady s f → WasSent g s m f i e (Ok answer.Accepted) → IsTakenUp s m (sent f.source f.number e)
  taken_up honest s m f i e ready was =
      let c = live g s in
      let n = sent f.source f.number e in
      let accept = accepted_verdict (verdict (standing_of c) n) (length s.pending) (by_verdict s.is_broken (verdict (standing_of c) n) (length s.pending) (Ok answer.Accepted) ready.works was.done.answer) in
      let taken : IsTaken g s n = record { works = ready.works; accepted = accept; room = few_pending s f ready } in
      record {
        accept = accept;
        content = one_after (verdict (standing_of c) n) c (live g m) (after c n) accept (was.content honest).leads;
        sets = (was.content honest).sets taken;
      }

  -- what its line led to is what is led to from behind it
  led_behind : (s m : ShownStore D) (f : Fed) (e : Event) (reading : Reading) (later : List Reading) (last : Content) (end : Ending) (o : List WriteCall) → HasRoom end → reading.event ≡ Ok e → IsTakenUp s m (sent f.source f.number e)
      → LeadsOn g (place s f o) (reading ∷ later) last end → FeedsTo f.source later m.detector.sets (after (live g s) (sent f.source f.number e)) (f.number + 1) last end
  led_behind s m f e reading later last end o room event is l =
      let c = live g s in
      let n = sent f.source f.number e in
      accepted_back s.detector.sets m.detector.sets c last n reading.line (λ t d. FeedsTo f.source later t d (f.number + 1) last end) end room is.sets
      (subst (λ v. Answers v s.detector.sets c n reading.line (λ t d. FeedsTo f.source later t d (f.number + 1) last end) last end) is.accept
      (subst (λ x. IsOffered x f.source s.detector.sets c f.number reading.line (λ t d. FeedsTo f.source later t d (f.number + 1) last end) last end) event l))

  -- the content behind a line whose event was accepted lies on the way
  pub way_accepted : (s m t : ShownStore D) (f i j : Fed) (e : Event) (o p : List WriteCall) (reading : Reading) → reading.event ≡ Ok e → IsReady s f → WasSent g s m f i e (Ok answer.Accepted) → t.detector ≡ m.detector
      → StaysOnWay g (place s f o) (reading ∷ []) (place t j p)
  way_accepted s m t f i j e o p reading event ready was still honest later last end room l =
      let c = live g s in
      let n = sent f.source f.number e in
      let is = taken_up honest s m f i e ready was in
      let same : live g t ≡ after c n = ap (λ (d : detect.ShownDetector (pool.ShownPool D)). detect.content (pools.live g) d) still ∙ is.content in
      record {
        passed = reading ∷ [];
        rest = later;
        all = refl;
        before = subst (λ x. IsOffered x f.source s.detector.sets c f.number reading.line (λ u d. FeedsTo f.source [] u d (f.number + 1) (live g t) Ended) (live g t) Ended) (sym event)
            (subst (λ v. Answers v s.detector.sets c n reading.line (λ u d. FeedsTo f.source [] u d (f.number + 1) (live g t) Ended) (live g t) Ended) (sym is.accept)
            (inl (m.detector.sets, inl (is.sets, (same, refl)))));
        between = m.detector.sets;
        behind = feeds_same later last end f.source f.source m.detector.sets m.detector.sets (after c n) (live g t) (f.number + 1) (f.number + length (reading ∷ [])) refl refl (sym same) (omega arith)
            (led_behind s m f e reading later last end o room event is l);
      }

  -- a line that accepts nothing leaves the content on the way
  pub way_still : (s m : ShownStore D) (f i : Fed) (o p : List WriteCall) (reading : Reading) → (IsTrue g.is_honest → live g m ≡ live g s) → StaysOnWay g (place s f o) (reading ∷ []) (place m i p)
  way_still s m f i o p reading same honest later last end room l = record {
    passed = [];
    rest = reading ∷ later;
    all = refl;
    before = (same honest, refl);
    between = s.detector.sets;
    behind = feeds_same (reading ∷ later) last end f.source f.source s.detector.sets s.detector.sets (live g s) (live g m) f.number (f.number + 0) refl refl (sym (same honest)) (omega arith) l;
  }

  pub way_refused : (s m : ShownStore D) (f i : Fed) (e : Event) (r : Result Answer Refusal) (o p : List WriteCall) (reading : Reading) → if_accepted (sent f.source f.number e) r ≡ [] → WasSent g s m f i e r
      → StaysOnWay g (place s f o) (reading ∷ []) (place m i p)
  way_refused s m f i e r o p reading nothing was = way_still s m f i o p reading (λ honest. same_content honest s m f i e r nothing was)

  -- an event was accepted, and its commit or the line of it was broken off
  pub breaks_accepted : (s m : ShownStore D) (f i : Fed) (e : Event) (o p : List WriteCall) (reading : Reading) → reading.event ≡ Ok e → IsReady s f → WasSent g s m f i e (Ok answer.Accepted)
      → IsPrintedNow o p (if nat_eq ((i.accepted + 1) % 256) 0 then ack_text (live g m).events else []) → BreaksAt g (place s f o) reading p
  breaks_accepted s m f i e o p reading event ready was now honest later last end room l first front events h =
      let c = live g s in
      let n = sent f.source f.number e in
      let is = taken_up honest s m f i e ready was in
      let on : FeedsTo f.source later m.detector.sets (after c n) (f.number + 1) last end = led_behind s m f e reading later last end o room event is l in
      let grown : c.events + 1 ≤ last.events = feeds_grow f.source later m.detector.sets (after c n) (f.number + 1) last end on in
      let total : (live g m).events ≡ c.events + 1 = ap (λ (d : Content). d.events) is.content in
      let same : i.accepted ≡ f.accepted = ap (λ (x : Fed). x.accepted) was.fed in
      let sum : (live g m).events ≡ events + (i.accepted + 1) = omega (arith, total, h.count, same) in
      let line = if nat_eq ((i.accepted + 1) % 256) 0 then ack_text (live g m).events else [] in
      let more = acks_front events (i.accepted + 1) (last.events - events) (omega (arith, grown, total, sum)) in
      let next : i.accepted + 1 ≡ f.accepted + 1 = omega (arith, same) in
      front_more first p (front ++ acks_text events (i.accepted + 1)) more.0 (front ++ acks_text events (last.events - events))
      (append_assoc front (acks_text events (i.accepted + 1)) more.0 ∙ ap (λ (t : List ℕ). front ++ t) more.1)
      (subst (λ (t : List ℕ). TookFront first p t)
      (append_assoc front (acks_text events f.accepted) line ∙ ap (λ (t : List ℕ). front ++ t) (sym (acks_on events f.accepted (i.accepted + 1) (live g m).events next sum)))
      (printed_front_on first o p (front ++ acks_text events f.accepted) line h.printed now))

  -- nothing was written since
  pub breaks_still : (s : ShownStore D) (f : Fed) (o : List WriteCall) (reading : Reading) → BreaksAt g (place s f o) reading o
  breaks_still s f o reading honest later last end room l = printed_grown g (place s f o) last (feeds_grow f.source (reading ∷ later) s.detector.sets (live g s) f.number last end l)
