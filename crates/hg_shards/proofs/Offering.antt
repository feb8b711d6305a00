-- What the offer of an event gives a detector that knows the words of a group.
use Rattle.std.proofs.Common.{◌≡◌, ℕ, ◌+◌, ◌*◌, ◌/◌, ◌<◌, nat_eq, nat_lt, arith, ◌≤◌, Bool, true, false, cond, ◌&&◌, List, [], ◌∷◌, ◌++◌, filter, length, Result, Ok, Err, inl, ⊎_elim, refl, sym, ap, ◌∙◌, subst, append-nil}
use Rattle.std.proofs.lemmas.Bool.{eqb-false, false≢true, lt-ltb, or_parts}
use Rattle.std.specs.Prelude.{if◌then◌else◌}
use Rattle.std.specs.List.{flat_map}
use Rattle.hg_model.specs.declared.event.Access.{Access}
use Rattle.hg_model.specs.declared.event.Event.{Event}
use Rattle.hg_model.specs.declared.event.Event.TheVariants.{Read, Write}
use Rattle.hg_model.specs.declared.event.HoldKind.{HoldKind}
use Rattle.hg_model.specs.declared.event.HoldKind.TheVariants as holds
use Rattle.hg_model.specs.declared.event.Named.{Named}
use Rattle.hg_model.specs.declared.verdict.Refusal.{Refusal}
use Rattle.hg_model.specs.declared.verdict.Refusal.TheVariants.{FullSets, OutOfMemory}
use Rattle.hg_model.specs.declared.verdict.Verdict.{Verdict}
use Rattle.hg_model.specs.declared.verdict.Verdict.TheVariants.{Accept, Duplicate, Refuse}
use Rattle.hg_model.specs.Accessing.{access_event, access_named}
use Rattle.hg_model.specs.Holding.{event_on}
use Rattle.hg_model.specs.Change.{after, empty_content, word_after}
use Rattle.hg_model.specs.Contents.{Content, events_of, summary}
use Rattle.hg_model.specs.History.{overlaps}
use Rattle.hg_model.specs.Sets.{contains}
use Rattle.hg_model.specs.Verdicts.{bad_length, standing_of, verdict}
use Rattle.hg_model.proofs.Accepted.{no_cause}
use Rattle.hg_sets.specs.Interning.{Table, first_table}
use Rattle.hg_cells.specs.declared.paged.PagedWords.{PagedWords}
use Rattle.hg_cells.specs.declared.words.Words as words
use Rattle.hg_detect.specs.declared.detector.Answer.{Answer}
use Rattle.hg_detect.specs.declared.detector.Answer.TheVariants as answers
use Rattle.hg_detect.specs.declared.detector.Detector.{Detector}
use Rattle.hg_detect.specs.Memory.{IsWhole, content_of}
use Rattle.hg_detect.specs.Answering.{AnswersOffer, AnswersPass, Applies, IsOnLock, after_passing, answer_by, done, is_accepted}
use Rattle.hg_detect.specs.Engine.{AtPresent}
use Rattle.hg_detect.specs.Making.{AsksBy, sets_asked, sets_in}
use Rattle.hg_detect.specs.Shown.{ShownDetector, content, verdict_on}
use Rattle.hg_shards.specs.Alike.{AreAlike, PassesBy, ReadBy, StaysWithin, Untouched, WrittenBy, touch}
use Rattle.hg_shards.specs.Asking.{HasSets, accessed, asked, asked_at_last, has_set, size_with}
use Rattle.hg_shards.specs.Logging.{Log, first_log, made_by, noted}
use Rattle.hg_shards.specs.Sharding.{AnswersAfter, AnswersShard, BeginsFor, Follows, HasForm, IsLogOf, IsOwnPart, IsReady, Knows, LogGoes, own_words, verdict_after, with_accepted, words_of}
use Rattle.hg_shards.specs.declared.shard.Shard.{Shard}
use Rattle.hg_shards.proofs.Asking.{sets_are_lem}
use Rattle.hg_shards.proofs.Tables.{first_has}
use Rattle.hg_shards.proofs.Cuts.{same_verdict_cut}
use Rattle.hg_shards.proofs.Going.{ReportsGo}
use Rattle.hg_shards.proofs.Noting.{Counts, Grows, accept_of, accepted_answer, log_is, log_stays, grows_to, made_same, sets_stay}
use Rattle.hg_shards.proofs.Lives.{same_touch}
use Rattle.hg_shards.proofs.Reports.{accessed_words, is_access}
use Rattle.hg_shards.proofs.Sets.{contains_filter, has_first}
use Rattle.hg_shards.proofs.Sharding.{IsOwn, full_on, knows_event, knows_passed, same_verdict, sets_on}
use Rattle.hg_shards.proofs.Steps.{own_events_lem}

-- ---- events that do nothing to other words

pub own_stays : (within : ℕ → Bool) (c : Content) (e : Event) → StaysWithin within e → IsOwn within c e
own_stays within c e stays = let own = own_events_lem within c e stays in record { reports = own.0; sets = own.1 }

-- an event that is no access has no reports and asks for no sets
pub own_other : (within : ℕ → Bool) (c : Content) (e : Event) → ((a : Access) → e ≡ Read a → ⊥) → ((a : Access) → e ≡ Write a → ⊥) → IsOwn within c e
own_other within c (Read a) no_read no_write = absurd (no_read a refl)
own_other within c (Write a) no_read no_write = absurd (no_write a refl)
own_other within c e no_read no_write = record { reports = refl; sets = refl }

pub own_hold : (within : ℕ → Bool) (c : Content) (k : HoldKind) (t l : ℕ) → IsOwn within c (event_on k t l)
own_hold within c holds.Lock t l = record { reports = refl; sets = refl }
own_hold within c holds.RdLock t l = record { reports = refl; sets = refl }
own_hold within c holds.Unlock t l = record { reports = refl; sets = refl }

pub no_sets_of_lock : (c : Content) (k : HoldKind) (t l : ℕ) → sets_asked c (event_on k t l) ≡ []
no_sets_of_lock c holds.Lock t l = refl
no_sets_of_lock c holds.RdLock t l = refl
no_sets_of_lock c holds.Unlock t l = refl

-- what passes by accesses no word of the group
pub none_accessed : (within : ℕ → Bool) (e : Event) → PassesBy within e → filter within (accessed e) ≡ []
none_accessed within e h = nothing (filter within (accessed e)) (λ w has. by w (within w) refl (sym (contains_filter within (accessed e) w ∙ ap (λ b. within w && b) (accessed_words e w)) ∙ has))
  where
    nothing : (ws : List ℕ) → ((w : ℕ) → contains ws w ≡ true → ⊥) → ws ≡ []
    nothing [] none = refl
    nothing (w ∷ ws) none = absurd (none w (has_first w ws))

    by : (w : ℕ) (b : Bool) → within w ≡ b → (b && is_access (touch w e)) ≡ true → ⊥
    by w true inside has = false≢true (sym (ap is_access (h.nothing w inside)) ∙ has)
    by w false outside has = false≢true has

-- a read or a write is on no lock
no_lock : (write : Bool) (a : Access) → IsOnLock (access_event write a) → ⊥
no_lock true a on = on
no_lock false a on = on

pub no_access : (e : Event) → ((a : Access) → e ≡ Read a → ⊥) → ((a : Access) → e ≡ Write a → ⊥) → accessed e ≡ []
no_access (Read a) no_read no_write = absurd (no_read a refl)
no_access (Write a) no_read no_write = absurd (no_write a refl)
no_access e no_read no_write = refl

-- ---- the answers

-- What the offer of an event gives, as far as the group goes: from a table of sets to another, and to a content.
pub record Offers (within : ℕ → Bool) (trace : List Named) (n : Named) (answer : Result Answer Refusal) (may_refuse : Refusal → Type 0) (old new : Table) (c : Content) (unchanged : Type 0) : Type 0 where
  pub answered : Applies (verdict_after trace n) may_refuse answer
  pub knows : Knows within (with_accepted answer n trace) c
  pub sets : (limit : ℕ) → HasSets limit (asked within (events_of trace)) old → answer ≡ Ok answers.Accepted → HasSets limit (asked within (events_of (n ∷ trace))) new
  pub same : (verdict_after trace n ≡ Accept → ⊥) → unchanged
  pub held : IsOnLock n.event → verdict_after trace n ≡ Accept → answer ≡ Ok answers.Accepted
  pub full : (limit : ℕ) → HasSets limit (asked within (events_of trace)) old → verdict_after trace n ≡ Accept → answer ≡ Err FullSets → limit < size_with (asked within (events_of (n ∷ trace)))

-- An access and what is cut of it are judged alike.
pub judged_cut : (within : ℕ → Bool) (trace : List Named) (c : Content) → Knows within trace c → (source number : ℕ) (write : Bool) (a own : Access) → IsOwnPart within a own write
    → verdict_after trace (access_named source number write a) ≡ verdict (standing_of c) (access_named source number write own)
judged_cut within trace c k source number write a own is =
    same_verdict within trace c k (access_named source number write a)
    ∙ same_verdict_cut (standing_of c) (access_named source number write a) (access_named source number write own) refl refl is.cut is.form.len is.form.end

module _ {W : Type 0} (g : words.Ghosts W) (within : ℕ → Bool) (trace : List Named) (old : ShownDetector W) where
  -- the same, from one detector to another
  abbrev pub OffersTo : Named → Result Answer Refusal → ShownDetector W → Type 0
  OffersTo n answer new = Offers within trace n answer (g.may_refuse new.words) old.sets new.sets (content g.cell_of new) (new ≡ old)

  abbrev pub before : Content
  before = content g.cell_of old

  module _ (k : Knows within trace before) where
    -- an event that the detector is offered in the place of the trace's
    offers : (n m : Named) (answer : Result Answer Refusal) (new : ShownDetector W) → n.source ≡ m.source → AreAlike within n.event m.event → IsOwn within before m.event → (IsOnLock n.event → IsOnLock m.event)
        → verdict_after trace n ≡ verdict_on g.cell_of old m → AtPresent g.is_faithful old → AnswersOffer g old m answer new → OffersTo n answer new
    offers n m answer new source alike own lock judged faithful h =
        record {
          answered = answered;
          knows = knows answer answered (h.content faithful);
          sets = λ limit has was. sets limit has (subst (λ (r : Result Answer Refusal). Applies (verdict_after trace n) (g.may_refuse new.words) r) was answered) was;
          same = λ other. h.same (λ accepts. other (judged ∙ accepts));
          held = λ on accepts. h.held (sym judged ∙ accepts) (lock on);
          full = λ limit has accepts was. full_on within trace before k n accepts m alike own limit old.sets new.sets has
              (subst (λ (r : Result Answer Refusal). AsksDone r) was (h.sets faithful (sym judged ∙ accepts)));
        }
      where
        AsksDone : Result Answer Refusal → Type 0
        AsksDone r = AsksBy old.sets (sets_asked before m.event) (done r) new.sets

        answered : Applies (verdict_after trace n) (g.may_refuse new.words) answer
        answered = subst (λ (v : Verdict). Applies v (g.may_refuse new.words) answer) (sym judged) h.answered

        knows : (r : Result Answer Refusal) → Applies (verdict_after trace n) (g.may_refuse new.words) r → content g.cell_of new ≡ (if is_accepted r then after before m else before)
            → Knows within (with_accepted r n trace) (content g.cell_of new)
        knows (Ok answers.Accepted) applies is = subst (λ (c : Content). Knows within (n ∷ trace) c) (sym is) (knows_event within trace before k n (accept_of (verdict_after trace n) (g.may_refuse new.words) applies) m source alike own)
        knows (Ok (answers.Duplicate last)) applies is = subst (λ (c : Content). Knows within trace c) (sym is) k
        knows (Err r) applies is = subst (λ (c : Content). Knows within trace c) (sym is) k

        sets : (limit : ℕ) → HasSets limit (asked within (events_of trace)) old.sets → Applies (verdict_after trace n) (g.may_refuse new.words) (Ok answers.Accepted) → answer ≡ Ok answers.Accepted
            → HasSets limit (asked within (events_of (n ∷ trace))) new.sets
        sets limit has applies was =
            let accepts = accept_of (verdict_after trace n) (g.may_refuse new.words) applies in
            sets_on within trace before k n accepts m alike own limit old.sets new.sets has (subst (λ (r : Result Answer Refusal). AsksDone r) was (h.sets faithful (sym judged ∙ accepts)))

    -- an event of no access, as it is
    pub offers_own : (n : Named) (answer : Result Answer Refusal) (new : ShownDetector W) → IsOwn within before n.event → AtPresent g.is_faithful old → AnswersOffer g old n answer new → OffersTo n answer new
    offers_own n answer new own faithful h = offers n n answer new refl (inl refl) own (λ on. on) (same_verdict within trace before k n) faithful h

    -- an access that is cut to the group
    pub offers_cut : (source number : ℕ) (write : Bool) (a own : Access) (answer : Result Answer Refusal) (new : ShownDetector W) → IsOwnPart within a own write → AtPresent g.is_faithful old
        → AnswersOffer g old (access_named source number write own) answer new → OffersTo (access_named source number write a) answer new
    offers_cut source number write a own answer new is faithful h =
        offers (access_named source number write a) (access_named source number write own) answer new refl is.alike (own_stays within before (access_event write own) is.stays)
        (λ on. absurd (no_lock write a on)) (judged_cut within trace before k source number write a own is) faithful h

    -- an access that is passed over
    pub offers_pass : (source number : ℕ) (write : Bool) (a : Access) (answer : Result Answer Refusal) (new : ShownDetector W) → (HasForm write a → PassesBy within (access_event write a))
        → AnswersPass g old source number a answer new → OffersTo (access_named source number write a) answer new
    offers_pass source number write a answer new by h =
        record {
          answered = subst (λ (r : Result Answer Refusal). Applies (verdict_after trace n) (g.may_refuse new.words) r) (sym is) (applies (verdict_after trace n));
          knows = subst (λ (r : Result Answer Refusal). Knows within (with_accepted r n trace) (content g.cell_of new)) (sym is)
              (knows (verdict_after trace n) refl (subst (λ (r : Result Answer Refusal). content g.cell_of new ≡ (if is_accepted r then after_passing before source else before)) is h.content));
          sets = λ limit has was. sets limit has (accepted_is (verdict_after trace n) (sym is ∙ was));
          same = λ other. h.same (ap is_accepted is ∙ not_accepted (verdict_after trace n) other);
          held = λ on accepts. absurd (no_lock write a on);
          full = λ limit has accepts was. absurd (not_full (sym was ∙ is ∙ ap answer_by accepts));
        }
      where
        n : Named
        n = access_named source number write a

        is : answer ≡ answer_by (verdict_after trace n)
        is = h.answered write ∙ ap answer_by (sym (same_verdict within trace before k n))

        applies : (v : Verdict) → Applies v (g.may_refuse new.words) (answer_by v)
        applies Accept = tt
        applies (Duplicate last) = refl
        applies (Refuse r) = refl

        passes : verdict_after trace n ≡ Accept → PassesBy within (access_event write a)
        passes accepts = let none = no_cause (standing_of (summary trace)) n accepts in by (record { len = none.1.0; end = none.1.1.0 })

        knows : (v : Verdict) → verdict_after trace n ≡ v → content g.cell_of new ≡ (if is_accepted (answer_by v) then after_passing before source else before)
            → Knows within (with_accepted (answer_by v) n trace) (content g.cell_of new)
        knows Accept accepts goes = subst (λ (c : Content). Knows within (n ∷ trace) c) (sym goes) (knows_passed within trace before k n accepts (passes accepts))
        knows (Duplicate last) other goes = subst (λ (c : Content). Knows within trace c) (sym goes) k
        knows (Refuse r) other goes = subst (λ (c : Content). Knows within trace c) (sym goes) k

        accepted_is : (v : Verdict) → answer_by v ≡ Ok answers.Accepted → v ≡ Accept
        accepted_is Accept q = refl
        accepted_is (Duplicate last) q = absurd (cc)
        accepted_is (Refuse r) q = absurd (cc)

        not_accepted : (v : Verdict) → (v ≡ Accept → ⊥) → is_accepted (answer_by v) ≡ false
        not_accepted Accept other = absurd (other refl)
        not_accepted (Duplicate last) other = refl
        not_accepted (Refuse r) other = refl

        not_full : ◌≡◌ {A = Result Answer Refusal} (Err FullSets) (Ok answers.Accepted) → ⊥
        not_full q = absurd (cc)

        asks_nothing : verdict_after trace n ≡ Accept → asked_at_last within (events_of (n ∷ trace)) ≡ []
        asks_nothing accepts =
            sym ((sets_are_lem n trace (k.accepted, accepts)).0 within) ∙ ap (flat_map (λ w. sets_in (word_after (summary trace) n.event w))) (none_accessed within n.event (passes accepts))

        sets : (limit : ℕ) → HasSets limit (asked within (events_of trace)) old.sets → verdict_after trace n ≡ Accept → HasSets limit (asked within (events_of (n ∷ trace))) new.sets
        sets limit has accepts =
            subst (λ (all : List (List ℕ)). HasSets limit all new.sets) (sym (append-nil (asked within (events_of trace))) ∙ ap (λ (more : List (List ℕ)). asked within (events_of trace) ++ more) (sym (asks_nothing accepts)))
            (subst (λ (t : Table). HasSets limit (asked within (events_of trace)) t) (sym (ap (λ (d : ShownDetector W). d.sets) h.rest)) has)

-- An own part touches a word of the group, so no access that has one passes by.
pub none_passes : (within : ℕ → Bool) (write : Bool) (a own : Access) → IsOwnPart within a own write → PassesBy within (access_event write a) → ⊥
none_passes within write a own is by = at (within w) refl
  where
    w : ℕ
    w = own.at / 4

    formed : (write : Bool) → bad_length (access_event write own) ≡ false → 0 < own.len
    formed true len = let none : own.len ≡ 0 → ⊥ = eqb-false own.len 0 (or_parts (nat_eq own.len 0) (nat_lt 64 own.len) len).0 in omega arith
    formed false len = let none : own.len ≡ 0 → ⊥ = eqb-false own.len 0 (or_parts (nat_eq own.len 0) (nat_lt 64 own.len) len).0 in omega arith

    overlapped : overlaps own.at own.len w ≡ true
    overlapped = let some = formed write is.cut.len in λ i. lt-ltb own.at (4 * w + 4) (omega arith) i && lt-ltb (4 * w) (own.at + own.len) (omega arith) i

    touched_by : (write : Bool) → touch w (access_event write own) ≡ Untouched → ⊥
    touched_by true none = written (sym (ap (λ b. cond b (WrittenBy own.t) Untouched) overlapped) ∙ none)
      where
        written : WrittenBy own.t ≡ Untouched → ⊥
        written h = absurd (cc h)
    touched_by false none = read (sym (ap (λ b. cond b (ReadBy own.t) Untouched) overlapped) ∙ none)
      where
        read : ReadBy own.t ≡ Untouched → ⊥
        read h = absurd (cc h)

    at : (b : Bool) → within w ≡ b → ⊥
    at true inside = touched_by write (sym (same_touch within (access_event write a) (access_event write own) is.alike w inside) ∙ by.nothing w inside)
    at false outside = touched_by write (is.stays w outside)

-- What is known after each trace that the shard followed is its answer.
module _ (old : Shard) (d : Detector PagedWords) (l : Log) (n : Named) (answer : Result Answer Refusal) (ready : IsReady old) (grows : Grows old.detector.sets d.sets) (counts : Counts old.detector answer d)
    (goes : LogGoes old answer (record old { detector = d; log = l })) (go : ReportsGo old.detector d) where
  abbrev Gives : List Named → Type 0
  Gives trace = Offers (own_words old) trace n answer (λ r. r ≡ OutOfMemory) old.detector.sets d.sets (content_of d) (d ≡ old.detector)

  same_log : (v : Verdict) → Applies v (λ r. r ≡ OutOfMemory) answer → (v ≡ Accept → ⊥) → l ≡ old.log
  same_log v applies other =
      ⊎_elim
      (λ (s : (l ≡ old.log) × (is_accepted answer ≡ true → d.sets ≡ old.detector.sets)). s.0)
      (λ (s : (is_accepted answer ≡ true) × (l ≡ record old.log { events = noted old.log.events (length d.sets.sets) d.parts.events })).
      absurd (other (accept_of v (λ r. r ≡ OutOfMemory) (subst (λ (r : Result Answer Refusal). Applies v (λ r. r ≡ OutOfMemory) r) (accepted_answer answer s.0) applies))))
      goes

  answer_after : (trace : List Named) → Follows trace old → Gives trace → AnswersAfter trace old n answer (record old { detector = d; log = l })
  answer_after trace k o =
      record {
        answered = o.answered;
        follows = o.knows;
        log = log_stays old d l answer ready.log grows counts goes trace k.content.events;
        sets = λ limit own was. sets_stay old d l answer ready.log grows counts goes limit trace n k.content.events own (ap is_accepted was) (o.sets limit own.sets was);
        same = λ other. (λ i. record old { detector = o.same other i; log = same_log (verdict_after trace n) o.answered other i });
        held = o.held;
        full = λ limit own. o.full limit own.sets;
      }

  pub shard_answers : IsWhole d → ((trace : List Named) → Follows trace old → Gives trace) → AnswersShard old n answer (record old { detector = d; log = l })
  shard_answers whole offers =
      record {
        rest = refl;
        ready = record { part = ready.part; whole = whole; log = log_is old d l answer ready.log grows counts goes };
        moves = record {
          events = go.events;
          late = go.late;
          reports = go.reports;
          later = go.later;
          made = made_same old d l answer ready.log grows counts goes;
          grows = grows_to old d l answer ready.log grows counts goes;
        };
        after_any = λ trace k. answer_after trace k (offers trace k);
      }

-- The first shard follows the empty trace.
pub shard_begins : (count part limit : ℕ) (d : Detector PagedWords) (l : Log) → part < count → IsWhole d → 1 ≤ limit → content_of d ≡ empty_content → d.sets ≡ first_table limit → l ≡ first_log limit
    → BeginsFor count part limit (record { detector = d; count = count; part = part; log = l })
shard_begins count part limit d l lt whole some empty sets log =
    let within = words_of count part in
    let nothing : Knows within [] empty_content = record {
      accepted = tt;
      content = record { events = refl; segments = refl; threads = refl; words = λ w inside. refl };
      last = refl;
      reports = refl;
      total = refl;
    } in
    record {
      count_is = refl;
      part_is = refl;
      ready = record { part = lt; whole = whole; log = is_log };
      follows = subst (λ (c : Content). Knows within [] c) (sym empty) nothing;
      sets = record {
        sets = subst (λ (t : Table). HasSets limit [] t) (sym sets) (first_has limit some);
        logged = ap (λ (x : Log). length x.events) log ∙ ap (λ (t : Table). length t.sets) (sym sets);
        log = λ set. (λ i. has_set (made_by 0 (sets i).sets (log i).events) set);
      };
    }
  where
    is_log : IsLogOf d l
    is_log =
        subst (λ (x : Log). IsLogOf d x) (sym log)
        (record {
          limit = ap (λ (t : Table). t.limit) (sym sets);
          within = let e = ap (λ (t : Table). length t.sets) sets in omega (arith, e);
          rises = (tt, tt);
          past = (omega arith, tt);
        })

-- an accepted access that was passed over is accepted
pub passed_answer : (within : ℕ → Bool) (trace : List Named) (c : Content) → Knows within trace c → (n : Named) (answer : Result Answer Refusal) → verdict_after trace n ≡ Accept
    → answer ≡ answer_by (verdict (standing_of c) n) → answer ≡ Ok answers.Accepted
passed_answer within trace c k n answer accepts is = is ∙ ap answer_by (sym (same_verdict within trace c k n) ∙ accepts)

pub no_memory : (answer : Result Answer Refusal) → answer ≡ Ok answers.Accepted → answer ≡ Err OutOfMemory → ⊥
no_memory answer was out = is_no_refusal (sym was ∙ out)
  where
    is_no_refusal : ◌≡◌ {A = Result Answer Refusal} (Ok answers.Accepted) (Err OutOfMemory) → ⊥
    is_no_refusal h = absurd (cc h)
