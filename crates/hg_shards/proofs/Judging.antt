-- All parts of a trace as one detector, which judges batches of events.
use Rattle.std.proofs.Common.{◌≡◌, ◌⊎◌, ⊎_elim, inl, inr, ℕ, zero, suc, ◌+◌, ◌-◌, ◌<◌, ◌≤◌, Bool, true, false, cond, ◌&&◌, nat_eq, nat_le, nat_lt, List, [], ◌∷◌, ◌++◌, length, take, reverse, filter, get_or, slice_get, Option, Some, None, Result, Ok, Err, refl, sym, ap, ◌∙◌, subst, arith, append-nil, append_assoc, length-append, ltb-true, ◌/◌}
use Rattle.std.proofs.Math.Seq.{take-length}
use Rattle.std.proofs.lemmas.Bool.{false≢true, lt-leb, leb-true, leb-false, le-ltb, ltb-false, lt-ltb, cases_lt, or_left, or_right, or_cases, le-leb}
use Rattle.std.proofs.lemmas.List.{reverse-append, length-map, length-reverse, length-take-le}
use Rattle.std.proofs.lemmas.Option.{slice_get_within}
use Rattle.std.specs.Cmp.Lexicographic.{pointwise}
use Rattle.std.proofs.lemmas.List.Elements.{filter-append}
use Rattle.std.specs.List.{AllByRecursion, flat_map}
use Rattle.std.specs.Set.{unique_keys}
use Rattle.std.specs.Prelude.{◌^◌, if◌then◌else◌}
use Rattle.hg_model.specs.declared.event.Event.{Event}
use Rattle.hg_model.specs.declared.event.Named.{Named}
use Rattle.hg_model.specs.declared.verdict.Refusal.{Refusal}
use Rattle.hg_model.specs.declared.verdict.Refusal.TheVariants.{FullSets, OutOfMemory}
use Rattle.hg_model.specs.declared.verdict.Verdict.{Verdict}
use Rattle.hg_model.specs.declared.verdict.Verdict.TheVariants as verdicts
use Rattle.hg_model.specs.declared.report.Report.{Report}
use Rattle.hg_model.specs.Reporting.{all_reports, reports_at_last}
use Rattle.hg_model.specs.Contents.{Content, events_of, summary}
use Rattle.hg_model.specs.Change.{empty_content}
use Rattle.hg_model.specs.Verdicts.{IsAccepted, standing_of, verdict}
use Rattle.hg_model.proofs.Accepted.{no_cause}
use Rattle.hg_model.proofs.Central.{summary_step}
use Rattle.hg_sets.specs.Interning.{Table, first_table}
use Rattle.hg_sets.specs.declared.fault.SetFault.TheVariants.{Full}
use Rattle.hg_detect.specs.declared.detector.Answer.{Answer}
use Rattle.hg_detect.specs.declared.detector.Answer.TheVariants as answers
use Rattle.hg_detect.specs.Answering.{Applies, is_accepted}
use Rattle.hg_detect.specs.Making.{Asks}
use Rattle.hg_shards.specs.Alike.{reports_within}
use Rattle.hg_shards.specs.declared.full.Taking.{Taking}
use Rattle.hg_shards.specs.declared.judge.Judge.{Judge}
use Rattle.hg_shards.specs.declared.shard.Shard.{Shard}
use Rattle.hg_shards.specs.declared.shards.Cause.{Cause}
use Rattle.hg_shards.specs.declared.shards.Cause.TheVariants as causes
use Rattle.hg_shards.specs.declared.shards.Stop.{Stop}
use Rattle.hg_shards.specs.Asking.{HasSets, accessed, anywhere, asked, asked_at_last, has_set, sets_of, size_with}
use Rattle.hg_shards.specs.Batches.{AllBegin, EachTakes, RefusesAs, TakeBatch, TakesBatch, before_stop, cause_of, earlier_stop, first_stop}
use Rattle.hg_shards.specs.Filling.{AreShardsFrom, IsFirstFull, is_found_by}
use Rattle.hg_shards.specs.Following.{upto}
use Rattle.hg_shards.specs.Judging.{Accepts, AcceptsAll, AreAllParts, ArePartsFrom, HasJudged, IsAt, IsFullAt, IsPart, Judges, KnowsTrace, LeadsBy, StopsAt, StopsFor}
use Rattle.hg_shards.specs.Stopping.{accepted_of, is_for_memory, one_stop, wants_memory}
use Rattle.hg_shards.specs.Sharding.{AtEachEvent, BeginsFor, GoesOn, HasMade, own_words, verdict_after}
use Rattle.hg_shards.specs.Together.{HasTaken}
use Rattle.hg_shards.proofs.Asking.{sets_are_lem}
use Rattle.hg_shards.proofs.Batches.{one_onto}
use Rattle.hg_shards.proofs.Carrying.{each_batch_grows, still_taken}
use Rattle.hg_shards.proofs.Following.{earlier_accepted, follows_on, moves_on}
use Rattle.hg_shards.proofs.Merging.{each_filter}
use Rattle.hg_shards.proofs.Logging.{all_both, all_weaker}
use Rattle.hg_shards.proofs.Rising.{last_event}
use Rattle.hg_shards.proofs.Counting.{at_least, has_both, unique_distinct, unique_members}
use Rattle.hg_shards.proofs.Noting.{at_each}
use Rattle.hg_shards.proofs.Tables.{answers as table_answers, size_is, tables_answer_lem}

-- ---- a trace and its beginnings

take_onward : (p q : ℕ) (xs : List Named) → p ≤ q → (more : List Named) × (take q xs ≡ take p xs ++ more)
take_onward zero q xs le = (take q xs, refl)
take_onward (suc p) zero xs le = absurd (omega arith)
take_onward (suc p) (suc q) [] le = ([], refl)
take_onward (suc p) (suc q) (x ∷ xs) le = let r = take_onward p q xs (omega arith) in (r.0, ap (λ ys. x ∷ ys) r.1)

-- more events of a batch go on from fewer
onward : (p q : ℕ) (events trace : List Named) → p ≤ q → (more : List Named) × (reverse (take q events) ++ trace ≡ more ++ (reverse (take p events) ++ trace))
onward p q events trace le =
    let r = take_onward p q events le in (
      reverse r.0,
      ap (λ xs. reverse xs ++ trace) r.1 ∙ ap (λ xs. xs ++ trace) (reverse-append (take p events) r.0) ∙ append_assoc (reverse r.0) (reverse (take p events)) trace,
    )

known_before : (P : List Named → Type 0) (more past : List Named) → AtEachEvent P (more ++ past) → AtEachEvent P past
known_before P [] past h = h
known_before P (n ∷ more) past h = known_before P more past h.1

at_end : (P : List Named → Type 0) (trace : List Named) → AtEachEvent P trace → P trace
at_end P [] h = h
at_end P (n ∷ past) h = h.0

accepted_before : (more past : List Named) → IsAccepted (more ++ past) → IsAccepted past
accepted_before [] past h = h
accepted_before (n ∷ more) past h = accepted_before more past h.0

-- an accepted trace has no more than 2^58 events
pub few_events : (trace : List Named) → IsAccepted trace → length trace ≤ 2 ^ 58
few_events [] h = omega arith
few_events (n ∷ past) h =
    let few = leb-false (2 ^ 58) (length past) (no_cause (standing_of (summary past)) n h.1).1.1.1.1.1.1.1.1.1.1.1.1.1.1.1.1.0 in
    omega (arith, few)

-- ---- the one table

-- the sets that a trace asks for have room
abbrev Fits : ℕ → List Named → Type 0
Fits limit past = size_with (asked anywhere (events_of past)) ≤ limit

-- One detector accepts these events, and has their sets then.
record HasAccepted (limit : ℕ) (events trace : List Named) (table : Table) : Type 0 where
  filled : Table
  accepts : Accepts events (summary trace) table (summary (reverse events ++ trace)) filled
  sets : HasSets limit (asked anywhere (events_of (reverse events ++ trace))) filled

-- the first of several events, and those behind it
module _ (limit : ℕ) (n : Named) (events trace : List Named) (table : Table) (ok : IsAccepted (reverse (n ∷ events) ++ trace)) (fits : AtEachEvent (Fits limit) (reverse (n ∷ events) ++ trace))
    (has : HasSets limit (asked anywhere (events_of trace)) table) where
  turned : reverse (n ∷ events) ++ trace ≡ reverse events ++ (n ∷ trace)
  turned = ap (λ xs. xs ++ trace) (reverse-append (n ∷ []) events) ∙ append_assoc (reverse events) (n ∷ []) trace

  now_ok : IsAccepted (reverse events ++ (n ∷ trace))
  now_ok = subst IsAccepted turned ok

  now_fits : AtEachEvent (Fits limit) (reverse events ++ (n ∷ trace))
  now_fits = subst (AtEachEvent (Fits limit)) turned fits

  one_ok : IsAccepted (n ∷ trace)
  one_ok = accepted_before (reverse events) (n ∷ trace) now_ok

  took_one : (new : Table) × Asks table (asked_at_last anywhere (events_of (n ∷ trace))) None new × HasSets limit (asked anywhere (events_of (n ∷ trace))) new
  took_one =
      (table_answers limit (asked anywhere (events_of trace)) (asked_at_last anywhere (events_of (n ∷ trace))) table has).room
      (at_end (Fits limit) (n ∷ trace) (known_before (Fits limit) (reverse events) (n ∷ trace) now_fits))

  with_rest : HasAccepted limit events (n ∷ trace) took_one.0 → HasAccepted limit (n ∷ events) trace table
  with_rest rest =
      record {
        filled = rest.filled;
        accepts = (
          one_ok.1,
          took_one.0,
          subst (λ (sets : List (List ℕ)). Asks table sets None took_one.0) (sym (sets_are_lem n trace one_ok).1) took_one.1,
          subst (λ (c : Content). Accepts events c took_one.0 (summary (reverse (n ∷ events) ++ trace)) rest.filled) (summary_step n trace one_ok)
              (subst (λ (t : List Named). Accepts events (summary (n ∷ trace)) took_one.0 (summary t) rest.filled) (sym turned) rest.accepts),
        );
        sets = subst (λ (t : List Named). HasSets limit (asked anywhere (events_of t)) rest.filled) (sym turned) rest.sets;
      }

accepts_lem : (limit : ℕ) (events trace : List Named) (table : Table) → IsAccepted (reverse events ++ trace) → AtEachEvent (Fits limit) (reverse events ++ trace) → HasSets limit (asked anywhere (events_of trace)) table
    → HasAccepted limit events trace table
accepts_lem limit [] trace table ok fits has = record { filled = table; accepts = (refl, refl); sets = has }
accepts_lem limit (n ∷ events) trace table ok fits has =
    with_rest limit n events trace table ok fits has
    (accepts_lem limit events (n ∷ trace) (took_one limit n events trace table ok fits has).0 (now_ok limit n events trace table ok fits has) (now_fits limit n events trace table ok fits has)
    (took_one limit n events trace table ok fits has).2)

-- more sets than there is room for
full_at : (limit : ℕ) (n : Named) (trace : List Named) (table : Table) → HasSets limit (asked anywhere (events_of trace)) table → IsAccepted (n ∷ trace) → limit < size_with (asked anywhere (events_of (n ∷ trace)))
    → IsFullAt (summary trace) table n
full_at limit n trace table has ok lt =
    let none = (table_answers limit (asked anywhere (events_of trace)) (asked_at_last anywhere (events_of (n ∷ trace))) table has).none lt in
    (ok.1, none.0, subst (λ (sets : List (List ℕ)). Asks table sets (Some Full) none.0) (sym (sets_are_lem n trace ok).1) none.1)

-- ---- a part has no other sets than the whole

flat_own : (f : ℕ → List (List ℕ)) (within : ℕ → Bool) (ws : List ℕ) (q : List ℕ) → has_set (flat_map f (filter within ws)) q ≡ true → has_set (flat_map f (filter anywhere ws)) q ≡ true
flat_own f within [] q h = h
flat_own f within (w ∷ ws) q h =
    elim (within w) as (λ b. has_set (flat_map f (cond b (w ∷ filter within ws) (filter within ws))) q ≡ true → has_set (f w ++ flat_map f (filter anywhere ws)) q ≡ true) [
      | true ↦ λ has.
          has_both (f w) (flat_map f (filter anywhere ws)) q
          ∙ ⊎_elim
          (λ here. or_left (has_set (f w) q) _ here)
          (λ later. or_right (has_set (f w) q) _ (flat_own f within ws q later))
          (or_cases (has_set (f w) q) (has_set (flat_map f (filter within ws)) q) (sym (has_both (f w) (flat_map f (filter within ws)) q) ∙ has))
      | false ↦ λ has. has_both (f w) (flat_map f (filter anywhere ws)) q ∙ or_right (has_set (f w) q) _ (flat_own f within ws q has)
    ] h

own_member : (within : ℕ → Bool) (es : List Event) (q : List ℕ) → has_set (asked within es) q ≡ true → has_set (asked anywhere es) q ≡ true
own_member within [] q h = h
own_member within (e ∷ past) q h =
    has_both (asked anywhere past) (asked_at_last anywhere (e ∷ past)) q
    ∙ ⊎_elim
    (λ old. or_left (has_set (asked anywhere past) q) _ (own_member within past q old))
    (λ new. or_right (has_set (asked anywhere past) q) _ (flat_own (sets_of (e ∷ past)) within (accessed e) q new))
    (or_cases (has_set (asked within past) q) (has_set (asked_at_last within (e ∷ past)) q) (sym (has_both (asked within past) (asked_at_last within (e ∷ past)) q) ∙ h))

own_few : (within : ℕ → Bool) (es : List Event) → size_with (asked within es) ≤ size_with (asked anywhere es)
own_few within es =
    at_least (unique_keys (pointwise nat_eq) ([] ∷ asked within es)) ([] ∷ asked anywhere es) (unique_distinct ([] ∷ asked within es))
    (λ q has.
    ⊎_elim
    (λ empty. or_left (pointwise nat_eq q []) _ empty)
    (λ some. or_right (pointwise nat_eq q []) _ (own_member within es q some))
    (or_cases (pointwise nat_eq q []) (has_set (asked within es) q) (sym (unique_members ([] ∷ asked within es) q) ∙ has)))

-- ---- why a shard stopped

not_accepted : (answer : Result Answer Refusal) (cause : Cause) → cause_of answer ≡ Some cause → is_accepted answer ≡ false
not_accepted (Ok answers.Accepted) cause h = absurd (cc h)
not_accepted (Ok (answers.Duplicate last)) cause h = refl
not_accepted (Err r) cause h = refl

same_cause : (one other : Cause) → ◌≡◌ {A = Option Cause} (Some one) (Some other) → one ≡ other
same_cause one other h = cc h

module _ (c : Content) (table : Table) (n : Named) (answer : Result Answer Refusal) (cause : Cause) where
  lacks : (r : Refusal) → cause ≡ causes.Refused r → answer ≡ Err r → (answer ≡ Err FullSets → IsFullAt c table n) → wants_memory cause ≡ false
      → (r ≡ FullSets) ⊎ ((r ≡ OutOfMemory) ⊎ (r ≡ OutOfMemory)) → StopsFor c table n cause
  lacks r is told full not lack =
      subst (λ (x : Cause). StopsFor c table n x) (sym is)
      (⊎_elim
      (λ (no_room : r ≡ FullSets). inr (no_room, full (told ∙ ap (λ (x : Refusal). Err x) no_room)))
      (λ (out : (r ≡ OutOfMemory) ⊎ (r ≡ OutOfMemory)). absurd (no_memory (⊎_elim (λ (x : r ≡ OutOfMemory). x) (λ (x : r ≡ OutOfMemory). x) out)))
      lack)
    where
      no_memory : r ≡ OutOfMemory → ⊥
      no_memory out = false≢true (sym not ∙ ap wants_memory (is ∙ ap (λ (x : Refusal). causes.Refused x) out))

  why : (v : Verdict) → verdict (standing_of c) n ≡ v → Applies v (λ r. r ≡ OutOfMemory) answer → cause_of answer ≡ Some cause
      → (verdict (standing_of c) n ≡ verdicts.Accept → answer ≡ Err FullSets → IsFullAt c table n) → wants_memory cause ≡ false → StopsFor c table n cause
  why verdicts.Accept is answered told full not = by answer refl answered told
    where
      by : (a : Result Answer Refusal) → answer ≡ a → Applies verdicts.Accept (λ r. r ≡ OutOfMemory) a → cause_of a ≡ Some cause → StopsFor c table n cause
      by (Ok answers.Accepted) same lack given = absurd (cc given)
      by (Ok (answers.Duplicate last)) same lack given = absurd lack
      by (Err r) same lack given = lacks r (sym (same_cause (causes.Refused r) cause given)) same (full is) not lack
  why (verdicts.Duplicate last) is answered told full not =
      subst (λ (x : Cause). StopsFor c table n x) (same_cause (causes.Duplicate last) cause (sym (ap cause_of answered) ∙ told)) is
  why (verdicts.Refuse r) is answered told full not =
      subst (λ (x : Cause). StopsFor c table n x) (same_cause (causes.Refused r) cause (sym (ap cause_of answered) ∙ told)) (inl is)

-- ---- the shards behind a batch

earlier_is_none : (a b : Option Stop) → earlier_stop a b ≡ None → (a ≡ None) × (b ≡ None)
earlier_is_none None b h = (refl, h)
earlier_is_none (Some a) None h = absurd (cc h)
earlier_is_none (Some a) (Some b) h =
    elim (nat_lt b.place a.place) as (λ t. ◌≡◌ {A = Option Stop} (if t then Some b else Some a) None → ◌≡◌ {A = Option Stop} (Some a) None × ◌≡◌ {A = Option Stop} (Some b) None) [
      | true ↦ λ is. absurd (cc is)
      | false ↦ λ is. absurd (cc is)
    ] h

earlier_is_some : (a b : Option Stop) (stop : Stop) → earlier_stop a b ≡ Some stop → (a ≡ Some stop) ⊎ (b ≡ Some stop)
earlier_is_some None b stop h = inr h
earlier_is_some (Some a) None stop h = inl h
earlier_is_some (Some a) (Some b) stop h =
    elim (nat_lt b.place a.place) as (λ t. ◌≡◌ {A = Option Stop} (if t then Some b else Some a) (Some stop) → ◌≡◌ {A = Option Stop} (Some a) (Some stop) ⊎ ◌≡◌ {A = Option Stop} (Some b) (Some stop)) [
      | true ↦ λ is. inr is
      | false ↦ λ is. inl is
    ] h

parts_length : (P : Shard → Type 0) (count k : ℕ) (shards : List Shard) → ArePartsFrom P count k shards → k + length shards ≡ count
parts_length P count k [] h = let is : k ≡ count = h in omega (arith, is)
parts_length P count k (s ∷ shards) h = let rest = parts_length P count (k + 1) shards h.1 in omega (arith, rest)

there : (xs : List Named) (k : ℕ) → k < length xs → (x : Named) × (slice_get xs k ≡ Some x)
there [] k lt = absurd (omega arith)
there (x ∷ xs) zero lt = (x, refl)
there (x ∷ xs) (suc k) lt = there xs k (omega arith)

module _ (events : List Named) where
  abbrev Earliest : Option Stop → Option Stop → Option Stop → Type 0
  Earliest a b first = (accepted_of events first ≤ accepted_of events a) × (accepted_of events first ≤ accepted_of events b)

  earlier_least : (a b : Option Stop) → accepted_of events a ≤ length events → accepted_of events b ≤ length events → Earliest a b (earlier_stop a b)
  earlier_least None None la lb = (omega arith, omega arith)
  earlier_least None (Some b) la lb = (lb, omega arith)
  earlier_least (Some a) None la lb = (omega arith, la)
  earlier_least (Some a) (Some b) la lb =
      elim (nat_lt b.place a.place) as (λ t. nat_lt b.place a.place ≡ t → Earliest (Some a) (Some b) (if t then Some b else Some a)) [
        | true ↦ λ lt. let less = ltb-true b.place a.place lt in (omega (arith, less), omega arith)
        | false ↦ λ ge. let less = ltb-false b.place a.place ge in (omega arith, omega (arith, less))
      ] refl

  module _ (trace : List Named) (limit : ℕ) where
    -- The shard that made a stop knew the trace with the events before it, and did not accept the event at it.
    pub record StoppedBy (stop : Stop) : Type 0 where
      pub mid : Shard
      pub new : Shard
      pub next : Named
      pub is_there : slice_get events stop.place ≡ Some next
      pub knows : KnowsTrace limit (upto events trace stop.place) mid
      pub refuses : RefusesAs mid next stop.cause new

    -- What a batch came to at the shard of a part which sees some of its events: what it accepted of these is accepted by the rules, if
    -- all before it is.
    pub record Ends (count k : ℕ) (sees : Event → Bool) (stop : Option Stop) (new : Shard) : Type 0 where
      pub count_is : new.count ≡ count
      pub part_is : new.part ≡ k
      pub within : accepted_of events stop ≤ length events
      pub accepts : (i : ℕ) (n : Named) → i < accepted_of events stop → slice_get events i ≡ Some n → sees n.event ≡ true → IsAccepted (upto events trace i) → verdict_after (upto events trace i) n ≡ verdicts.Accept
      pub goes_on : (i : ℕ) → i ≤ accepted_of events stop → IsAccepted (upto events trace i) → GoesOn (upto events trace i) new
      pub known : stop ≡ None → IsAccepted (upto events trace (length events)) → KnowsTrace limit (upto events trace (length events)) new
      pub stopped : (s : Stop) → stop ≡ Some s → IsAccepted (upto events trace s.place) → StoppedBy s

    abbrev pub EachEnds : ℕ → (ℕ → Event → Bool) → ℕ → List (Option Stop) → List Shard → Type 0
    EachEnds count sees k [] [] = k ≡ count
    EachEnds count sees k (stop ∷ stops) (new ∷ news) = Ends count k (sees k) stop new × EachEnds count sees (k + 1) stops news
    EachEnds count sees k stops news = ⊥

    all_within : (count k : ℕ) (sees : ℕ → Event → Bool) (stops : List (Option Stop)) (news : List Shard) → EachEnds count sees k stops news → accepted_of events (first_stop stops) ≤ length events
    all_within count k sees [] [] g = omega arith
    all_within count k sees (stop ∷ stops) (new ∷ news) g =
        let one = g.0.within in
        let rest = all_within count (k + 1) sees stops news g.1 in
        let least = (earlier_least stop (first_stop stops) one rest).0 in
        omega (arith, one, least)
    all_within count k sees [] (new ∷ news) g = absurd g
    all_within count k sees (stop ∷ stops) [] g = absurd g

    -- what the shard of part j came to
    record EndOf (count : ℕ) (sees : ℕ → Event → Bool) (j most : ℕ) : Type 0 where
      stop : Option Stop
      new : Shard
      ends : Ends count j (sees j) stop new
      least : most ≤ accepted_of events stop

    end_at : (count k j : ℕ) (sees : ℕ → Event → Bool) (stops : List (Option Stop)) (news : List Shard) → EachEnds count sees k stops news → k ≤ j → j < count
        → EndOf count sees j (accepted_of events (first_stop stops))
    end_at count k j sees [] [] g le lt = let is : k ≡ count = g in absurd (omega (arith, is, le, lt))
    end_at count k j sees (stop ∷ stops) (new ∷ news) g le lt =
        let least = earlier_least stop (first_stop stops) g.0.within (all_within count (k + 1) sees stops news g.1) in
        ⊎_elim
        (λ (more : k < j).
        let rest = end_at count (k + 1) j sees stops news g.1 (omega (arith, more)) lt in
        record { stop = rest.stop; new = rest.new; ends = rest.ends; least = let a = rest.least in let b = least.1 in omega (arith, a, b) })
        (λ (here : j ≤ k).
        record {
          stop = stop;
          new = new;
          ends = subst (λ (m : ℕ). Ends count m (sees m) stop new) (let e : k ≡ j = omega (arith, le, here) in e) g.0;
          least = least.0;
        })
        (cases_lt k j)
    end_at count k j sees [] (new ∷ news) g le lt = absurd g
    end_at count k j sees (stop ∷ stops) [] g le lt = absurd g

    -- What all shards accepted together is accepted, since some shard sees each event.
    all_accepted : (count : ℕ) (sees : ℕ → Event → Bool) (stops : List (Option Stop)) (news : List Shard) → EachEnds count sees 0 stops news → ((e : Event) → (k : ℕ) × (k < count) × (sees k e ≡ true)) → IsAccepted trace
        → (p : ℕ) → p ≤ accepted_of events (first_stop stops) → IsAccepted (upto events trace p)
    all_accepted count sees stops news g seen ok zero le = ok
    all_accepted count sees stops news g seen ok (suc p) le =
        let before = all_accepted count sees stops news g seen ok p (omega (arith, le)) in
        let few = all_within count 0 sees stops news g in
        let n = there events p (omega (arith, le, few)) in
        let by = seen n.0.event in
        let end = end_at count 0 by.0 sees stops news g (omega arith) by.1 in
        let lt : p < accepted_of events end.stop = (let least = end.least in omega (arith, least, le)) in
        subst (λ (m : ℕ). IsAccepted (upto events trace m)) (let e : p + 1 ≡ suc p = omega arith in e)
        (subst IsAccepted (sym (one_onto events p n.0 trace n.1)) (before, end.ends.accepts p n.0 lt n.1 by.2 before))

    -- all shards have what the trace makes with the events that each of them accepted
    all_go : (p count k : ℕ) (sees : ℕ → Event → Bool) (stops : List (Option Stop)) (news : List Shard) → EachEnds count sees k stops news → p ≤ accepted_of events (first_stop stops) → IsAccepted (upto events trace p)
        → ArePartsFrom (GoesOn (upto events trace p)) count k news
    all_go p count k sees [] [] g le ok = g
    all_go p count k sees (stop ∷ stops) (new ∷ news) g le ok =
        let least = earlier_least stop (first_stop stops) g.0.within (all_within count (k + 1) sees stops news g.1) in
        let low = least.0 in
        let lower = least.1 in (
          record { count_is = g.0.count_is; part_is = g.0.part_is; has = g.0.goes_on p (omega (arith, le, low)) ok },
          all_go p count (k + 1) sees stops news g.1 (omega (arith, le, lower)) ok,
        )
    all_go p count k sees [] (new ∷ news) g le ok = absurd g
    all_go p count k sees (stop ∷ stops) [] g le ok = absurd g

    -- where none stopped, all know the trace with the whole batch
    all_known : (count k : ℕ) (sees : ℕ → Event → Bool) (stops : List (Option Stop)) (news : List Shard) → EachEnds count sees k stops news → first_stop stops ≡ None → IsAccepted (upto events trace (length events))
        → ArePartsFrom (KnowsTrace limit (upto events trace (length events))) count k news
    all_known count k sees [] [] g none ok = g
    all_known count k sees (stop ∷ stops) (new ∷ news) g none ok =
        let both = earlier_is_none stop (first_stop stops) none in (
          record { count_is = g.0.count_is; part_is = g.0.part_is; has = g.0.known both.0 ok },
          all_known count (k + 1) sees stops news g.1 both.1 ok,
        )
    all_known count k sees [] (new ∷ news) g none ok = absurd g
    all_known count k sees (stop ∷ stops) [] g none ok = absurd g

    who : (count k : ℕ) (sees : ℕ → Event → Bool) (stops : List (Option Stop)) (news : List Shard) (stop : Stop) → EachEnds count sees k stops news → first_stop stops ≡ Some stop → IsAccepted (upto events trace stop.place)
        → StoppedBy stop
    who count k sees [] [] stop g is ok = absurd (cc is)
    who count k sees (one ∷ stops) (new ∷ news) stop g is ok =
        ⊎_elim
        (λ (here : one ≡ Some stop). g.0.stopped stop here ok)
        (λ (later : first_stop stops ≡ Some stop). who count (k + 1) sees stops news stop g.1 later ok)
        (earlier_is_some one (first_stop stops) stop is)
    who count k sees [] (new ∷ news) stop g is ok = absurd g
    who count k sees (one ∷ stops) [] stop g is ok = absurd g

    -- why one detector stops there, whose table has no more room than that of the shard
    stop_for : (stop : Stop) (by : StoppedBy stop) (table : Table) → HasSets limit (asked anywhere (events_of (upto events trace stop.place))) table → wants_memory stop.cause ≡ false
        → StopsFor (summary (upto events trace stop.place)) table by.next stop.cause
    stop_for stop by table has not =
        let a = by.refuses.answers.after_any (upto events trace stop.place) by.knows.0 in
        why (summary (upto events trace stop.place)) table by.next by.refuses.answer stop.cause (verdict_after (upto events trace stop.place) by.next) refl a.answered by.refuses.cause_is
        (λ accepts told.
        let own = a.full limit by.knows.1 accepts told in
        let few = own_few (own_words by.mid) (events_of (by.next ∷ upto events trace stop.place)) in
        full_at limit by.next (upto events trace stop.place) table has (by.knows.0.accepted, accepts) (omega (arith, own, few)))
        not

-- ---- a batch that each shard sees whole

length_events : (trace : List Named) → length (events_of trace) ≡ length trace
length_events trace = length-map trace (λ n. n.event)

-- the reports of a longer trace
grown : (more trace : List Named) → (late : List Report) × (all_reports (events_of (more ++ trace)) ≡ all_reports (events_of trace) ++ late) × AllByRecursion (λ r. length trace < r.event) late
grown [] trace = ([], sym (append-nil (all_reports (events_of trace))), tt)
grown (n ∷ more) trace =
    let before = grown more trace in
    let past = events_of (more ++ trace) in
    let last = reports_at_last (n.event ∷ past) in (
      before.0 ++ last,
      ap (λ (rs : List Report). rs ++ last) before.1 ∙ append_assoc (all_reports (events_of trace)) before.0 last,
      all_both (λ (r : Report). length trace < r.event) before.0 last before.2
          (all_weaker (λ (r : Report). r.event ≡ suc (length past)) (λ (r : Report). length trace < r.event) last
          (λ r is. let one = length_events (more ++ trace) in let both = length-append more trace in omega (arith, is, one, both)) (last_event n.event past)),
    )

-- a shard that has what a longer trace makes has what the trace makes
goes_less : (more trace : List Named) (s : Shard) → GoesOn (more ++ trace) s → GoesOn trace s
goes_less more trace s g =
    let new = grown more trace in
    let own = reports_within (own_words s) (all_reports (events_of trace)) in
    let next = reports_within (own_words s) new.0 in
    record {
      counted = let le = g.counted in let both = length-append more trace in omega (arith, le, both);
      late = next ++ g.late;
      reports = g.reports ∙ ap (λ (rs : List Report). take 65536 (reports_within (own_words s) rs ++ g.late)) new.1
          ∙ ap (λ (rs : List Report). take 65536 (rs ++ g.late)) (filter-append (λ (r : Report). own_words s (r.word / 4)) (all_reports (events_of trace)) new.0)
          ∙ ap (take 65536) (append_assoc own next g.late);
      later = all_both (λ (r : Report). length trace < r.event) next g.late
          (each_filter (λ (r : Report). length trace < r.event) (λ (r : Report). own_words s (r.word / 4)) new.0 new.2)
          (all_weaker (λ (r : Report). length (more ++ trace) < r.event) (λ (r : Report). length trace < r.event) g.late (λ r lt. let both = length-append more trace in omega (arith, lt, both)) g.later);
      log = known_before (HasMade s) more trace g.log;
    }

goes_earlier : (events trace : List Named) (i p : ℕ) → i ≤ p → (s : Shard) → GoesOn (upto events trace p) s → GoesOn (upto events trace i) s
goes_earlier events trace i p le s g = let more = onward i p events trace le in goes_less more.0 (upto events trace i) s (subst (λ (t : List Named). GoesOn t s) more.1 g)

abbrev sees_all : ℕ → Event → Bool
sees_all k e = true

module _ (events trace : List Named) (limit : ℕ) where
  before_is : (stop : Option Stop) → reverse (before_stop events stop) ++ trace ≡ upto events trace (accepted_of events stop)
  before_is None = ap (λ xs. reverse xs ++ trace) (sym (take-length events))
  before_is (Some stop) = refl

  mid_knows : (old new : Shard) (stop : Option Stop) → (h : TakesBatch old events stop new) → KnowsTrace limit trace old → KnowsTrace limit (upto events trace (accepted_of events stop)) h.between
  mid_knows old new stop h k = subst (λ (t : List Named). KnowsTrace limit t h.between) (before_is stop) (h.takes.follows trace k.0, h.takes.sets trace k.0 limit k.1)

  same_part : (old new : Shard) (stop : Option Stop) → TakesBatch old events stop new → (new.count ≡ old.count) × (new.part ≡ old.part)
  same_part old new None h = (
    ap (λ (s : Shard). s.count) h.stops ∙ ap (λ (s : Shard). s.count) h.takes.rest,
    ap (λ (s : Shard). s.part) h.stops ∙ ap (λ (s : Shard). s.part) h.takes.rest,
  )
  same_part old new (Some stop) h = (
    ap (λ (s : Shard). s.count) h.stops.2.answers.rest ∙ ap (λ (s : Shard). s.count) h.takes.rest,
    ap (λ (s : Shard). s.part) h.stops.2.answers.rest ∙ ap (λ (s : Shard). s.part) h.takes.rest,
  )

  stop_within : (old new : Shard) (stop : Option Stop) → TakesBatch old events stop new → accepted_of events stop ≤ length events
  stop_within old new None h = omega arith
  stop_within old new (Some stop) h = let lt = slice_get_within events stop.place h.stops.0 h.stops.1 in omega (arith, lt)

  -- what a shard that was offered the batch has
  reaches : (old new : Shard) (stop : Option Stop) → TakesBatch old events stop new → KnowsTrace limit trace old → GoesOn (upto events trace (accepted_of events stop)) new
  reaches old new None h k =
      subst (λ (s : Shard). GoesOn (upto events trace (length events)) s) (sym h.stops)
      (follows_on (upto events trace (length events)) h.between limit (mid_knows old new None h k).0 (mid_knows old new None h k).1)
  reaches old new (Some stop) h k =
      let mid = mid_knows old new (Some stop) h k in
      moves_on (upto events trace stop.place) h.between new h.stops.2.answers.rest (follows_on (upto events trace stop.place) h.between limit mid.0 mid.1) h.stops.2.answers.moves

  batch_ends : (count k : ℕ) (old new : Shard) (stop : Option Stop) → TakesBatch old events stop new → IsPart (KnowsTrace limit trace) count k old → Ends events trace limit count k (sees_all k) stop new
  batch_ends count k old new stop h part =
      let same = same_part old new stop h in
      let mid = mid_knows old new stop h part.has in
      record {
        count_is = same.0 ∙ part.count_is;
        part_is = same.1 ∙ part.part_is;
        within = stop_within old new stop h;
        accepts = λ i n lt at seen ok.
            (subst IsAccepted (one_onto events i n trace at) (earlier_accepted events trace (i + 1) (accepted_of events stop) (omega (arith, lt)) mid.0.accepted)).1;
        goes_on = λ i le ok. goes_earlier events trace i (accepted_of events stop) le new (reaches old new stop h part.has);
        known = λ none ok. whole stop none h part.has;
        stopped = λ s is ok. this_one s (subst (λ (x : Option Stop). TakesBatch old events x new) is h) part.has;
      }
    where
      whole : (x : Option Stop) → x ≡ None → TakesBatch old events x new → KnowsTrace limit trace old → KnowsTrace limit (upto events trace (length events)) new
      whole None none took knows = subst (λ (s : Shard). KnowsTrace limit (upto events trace (length events)) s) (sym took.stops) (mid_knows old new None took knows)
      whole (Some x) none took knows = absurd (cc none)

      this_one : (s : Stop) → TakesBatch old events (Some s) new → KnowsTrace limit trace old → StoppedBy events trace limit s
      this_one s took knows =
          record { mid = took.between; new = new; next = took.stops.0; is_there = took.stops.1; knows = mid_knows old new (Some s) took knows; refuses = took.stops.2 }

  each_batch : (count k : ℕ) (olds : List Shard) (stops : List (Option Stop)) (news : List Shard) → EachTakes olds events stops news → ArePartsFrom (KnowsTrace limit trace) count k olds
      → EachEnds events trace limit count sees_all k stops news
  each_batch count k [] [] [] g h = h
  each_batch count k (old ∷ olds) (stop ∷ stops) (new ∷ news) g h = (batch_ends count k old new stop g.0 h.0, each_batch count (k + 1) olds stops news g.1 h.1)
  each_batch count k [] [] (new ∷ news) g h = absurd g
  each_batch count k [] (stop ∷ stops) news g h = absurd g
  each_batch count k (old ∷ olds) [] news g h = absurd g
  each_batch count k (old ∷ olds) (stop ∷ stops) [] g h = absurd g

-- ---- what a batch leads to

found_later : (j k : ℕ) (found : Option ℕ) → j ≤ k → is_found_by k found ≡ false → is_found_by j found ≡ false
found_later j k None le h = refl
found_later j k (Some event) le h = let lt = leb-false event k h in lt-leb event j (omega (arith, le, lt))

-- the one table would be full
abbrev full_stop : ℕ → Stop
full_stop place = record { place = place; cause = causes.Refused FullSets }

-- A batch was offered to the shards of all parts, which know a trace. The table has the sets that the trace asks for.
pub record IsBatch (limit : ℕ) (trace : List Named) (table : Table) (events : List Named) (first : Option Stop) (found : Option ℕ) (count : ℕ) (sees : ℕ → Event → Bool) (news : List Shard) : Type 0 where
  pub stops : List (Option Stop)
  pub each : EachEnds events trace limit count sees 0 stops news
  pub first_is : first ≡ first_stop stops
  pub seen : (e : Event) → (k : ℕ) × (k < count) × (sees k e ≡ true)
  pub some : 0 < count
  pub full : IsFirstFull limit news found
  pub has : HasSets limit (asked anywhere (events_of trace)) table
  pub ok : IsAccepted trace

shards_from : (trace : List Named) (count k : ℕ) (shards : List Shard) → ArePartsFrom (GoesOn trace) count k shards → AreShardsFrom count k trace shards
shards_from trace count k [] h = h
shards_from trace count k (s ∷ shards) h = (record { count_is = h.0.count_is; part_is = h.0.part_is; log = h.0.has.log }, shards_from trace count (k + 1) shards h.1)

module _ (limit : ℕ) (trace : List Named) (table : Table) (events : List Named) (first : Option Stop) (found : Option ℕ) (count : ℕ) (sees : ℕ → Event → Bool) (news : List Shard)
    (b : IsBatch limit trace table events first found count sees news) where
  abbrev with_events : ℕ → List Named
  with_events m = upto events trace m

  abbrev reached : ℕ
  reached = accepted_of events first

  reached_is : reached ≡ accepted_of events (first_stop b.stops)
  reached_is = ap (accepted_of events) b.first_is

  reached_within : reached ≤ length events
  reached_within = let le = all_within events trace limit count 0 sees b.stops news b.each in let is = reached_is in omega (arith, le, is)

  length_with : (m : ℕ) → m ≤ reached → length (with_events m) ≡ m + length trace
  length_with m le =
      let most = reached_within in
      let one = length-append (reverse (take m events)) trace in
      let two = length-reverse (take m events) in
      let three = length-take-le m events (omega (arith, le, most)) in
      omega (arith, one, two, three)

  ok_at : (m : ℕ) → m ≤ reached → IsAccepted (with_events m)
  ok_at m le = all_accepted events trace limit count sees b.stops news b.each b.seen b.ok m (let is = reached_is in omega (arith, le, is))

  go_on : (m : ℕ) → m ≤ reached → ArePartsFrom (GoesOn (with_events m)) count 0 news
  go_on m le = all_go events trace limit m count 0 sees b.stops news b.each (let is = reached_is in omega (arith, le, is)) (ok_at m le)

  as_many : count ≡ length news
  as_many = let is = parts_length (GoesOn (with_events 0)) count 0 news (go_on 0 (omega arith)) in omega (arith, is)

  some_new : 0 < length news
  some_new = let lt = b.some in let is = as_many in omega (arith, lt, is)

  parts_at : (m : ℕ) → m ≤ reached → AreAllParts (GoesOn (with_events m)) news
  parts_at m le = (some_new, subst (λ (n : ℕ). ArePartsFrom (GoesOn (with_events m)) n 0 news) as_many (go_on m le))

  sizes_at : (m : ℕ) → m ≤ reached → AtEachEvent (λ past. nat_lt limit (size_with (asked anywhere (events_of past))) ≡ is_found_by (length past) found) (with_events m)
  sizes_at m le = b.full (with_events m) (some_new, subst (λ (n : ℕ). AreShardsFrom n 0 (with_events m) news) as_many (shards_from (with_events m) count 0 news (go_on m le)))

  fits_at : (m : ℕ) → m ≤ reached → is_found_by (length (with_events m)) found ≡ false → AtEachEvent (Fits limit) (with_events m)
  fits_at m le none =
      at_each (λ past. nat_lt limit (size_with (asked anywhere (events_of past))) ≡ is_found_by (length past) found) (Fits limit) (length (with_events m)) (with_events m) (omega arith)
      (λ past short is. ltb-false limit (size_with (asked anywhere (events_of past))) (is ∙ found_later (length past) (length (with_events m)) found short none))
      (sizes_at m le)

  accepted_at : (m : ℕ) → m ≤ reached → is_found_by (length (with_events m)) found ≡ false → HasAccepted limit (take m events) trace table
  accepted_at m le none = accepts_lem limit (take m events) trace table (ok_at m le) (fits_at m le none) b.has

  -- the table was not full before the batch
  not_before : is_found_by (length trace) found ≡ false
  not_before =
      let size = size_is limit (asked anywhere (events_of trace)) table b.has in
      let within = b.has.within in
      sym (at_end (λ past. nat_lt limit (size_with (asked anywhere (events_of past))) ≡ is_found_by (length past) found) trace (sizes_at 0 (omega arith)))
      ∙ le-ltb limit (size_with (asked anywhere (events_of trace))) (omega (arith, size, within))

  module _ (new : Judge) (limit_is : new.limit ≡ limit) (shards_are : new.shards.shards.items ≡ news) (taken : HasTaken limit news new.taking) where
    judged_at : (m : ℕ) → m ≤ reached → new.events ≡ length (with_events m) → HasJudged (with_events m) new
    judged_at m le counts =
        record {
          accepted = ok_at m le;
          count = counts;
          parts = subst (λ (shards : List Shard). AreAllParts (GoesOn (with_events m)) shards) (sym shards_are) (parts_at m le);
        }

    -- no shard stopped, and the one table has room
    lead_none : first ≡ None → (m : ℕ) → m ≡ length events → m ≤ reached → is_found_by (length (with_events m)) found ≡ false → new.events ≡ length (with_events m)
        → AcceptsAll (summary trace) table events new
    lead_none is m whole le none counts =
        let done = accepted_at m le none in
        let all = take_whole m whole in
        record {
          last = summary (with_events m);
          filled = done.filled;
          accepts = subst (λ (xs : List Named). Accepts xs (summary trace) table (summary (with_events m)) done.filled) all done.accepts;
          is_at = record {
            trace = with_events m;
            content = refl;
            judged = judged_at m le counts;
            parts = subst (λ (shards : List Shard). AreAllParts (KnowsTrace new.limit (with_events m)) shards) (sym shards_are) (
              some_new,
              subst (λ (l : ℕ). ArePartsFrom (KnowsTrace l (with_events m)) (length news) 0 news) (sym limit_is)
                  (subst (λ (n : ℕ). ArePartsFrom (KnowsTrace limit (with_events m)) n 0 news) as_many
                  (subst (λ (k : ℕ). ArePartsFrom (KnowsTrace limit (with_events k)) count 0 news) (sym whole)
                  (all_known events trace limit count 0 sees b.stops news b.each (sym b.first_is ∙ is) (ok_at (length events) (omega (arith, whole, le)))))),
            );
            sets = subst (λ (l : ℕ). HasSets l (asked anywhere (events_of (with_events m))) done.filled) (sym limit_is) done.sets;
            taken = subst (λ (l : ℕ). HasTaken l new.shards.shards.items new.taking) (sym limit_is)
                (subst (λ (shards : List Shard). HasTaken limit shards new.taking) (sym shards_are) taken);
          };
        }
      where
        take_whole : (k : ℕ) → k ≡ length events → take k events ≡ events
        take_whole k is_all = ap (λ n. take n events) is_all ∙ take-length events

    -- a shard stopped, and the one table has room for what is before it
    lead_some : (stop : Stop) → first ≡ Some stop → stop.place ≤ reached → is_found_by (length (with_events stop.place)) found ≡ false → new.events ≡ length (with_events stop.place) → wants_memory stop.cause ≡ false
        → StopsAt (summary trace) table events stop new
    lead_some stop is le none counts not =
        let done = accepted_at stop.place le none in
        let by = who events trace limit count 0 sees b.stops news stop b.each (sym b.first_is ∙ is) (ok_at stop.place le) in
        record {
          last = summary (with_events stop.place);
          filled = done.filled;
          accepts = done.accepts;
          next = by.next;
          is_there = by.is_there;
          stops = stop_for events trace limit stop by done.filled done.sets not;
          reports = record { trace = with_events stop.place; content = refl; judged = judged_at stop.place le counts };
        }

    -- the one table is full before a shard stops
    lead_full : (event m : ℕ) → found ≡ Some event → event ≡ length trace + m + 1 → m + 1 ≤ reached → new.events ≡ length (with_events m) → StopsAt (summary trace) table events (full_stop m) new
    lead_full event m is at le counts =
        let less : m ≤ reached = omega (arith, le) in
        let none : is_found_by (length (with_events m)) found ≡ false =
        (ap (is_found_by (length (with_events m))) is ∙ lt-leb event (length (with_events m)) (let n = length_with m less in omega (arith, n, at))) in
        let done = accepted_at m less none in
        let next = there events m (let most = reached_within in omega (arith, le, most)) in
        let onto = one_onto events m next.0 trace next.1 in
        let full : is_found_by (length (with_events (m + 1))) found ≡ true =
        (ap (is_found_by (length (with_events (m + 1)))) is ∙ le-leb event (length (with_events (m + 1))) (let n = length_with (m + 1) le in omega (arith, n, at))) in
        let many = ltb-true limit (size_with (asked anywhere (events_of (with_events (m + 1)))))
        (at_end (λ past. nat_lt limit (size_with (asked anywhere (events_of past))) ≡ is_found_by (length past) found) (with_events (m + 1)) (sizes_at (m + 1) le) ∙ full) in
        record {
          last = summary (with_events m);
          filled = done.filled;
          accepts = done.accepts;
          next = next.0;
          is_there = next.1;
          stops = inr (
            refl,
            full_at limit next.0 (with_events m) done.filled done.sets (subst IsAccepted onto (ok_at (m + 1) le))
                (subst (λ (t : List Named). limit < size_with (asked anywhere (events_of t))) onto many),
          );
          reports = record { trace = with_events m; content = refl; judged = judged_at m less counts };
        }

    module _ (before : ℕ) (is_before : before ≡ length trace) where
      -- the judge counts these events too, as far as its number goes
      abbrev Counts : Option Stop → Type 0
      Counts stop = before + accepted_of events stop < 2 ^ 64 → new.events ≡ before + accepted_of events stop

      counts_at : (stop : Option Stop) (m : ℕ) → accepted_of events stop ≡ m → m ≤ reached → Counts stop → new.events ≡ length (with_events m)
      counts_at stop m is le counts =
          let len = length_with m le in
          let few = few_events (with_events m) (ok_at m le) in
          let now = counts (omega (arith, len, few, is, is_before)) in
          omega (arith, now, len, is, is_before)

      lead_first : is_found_by (length (with_events reached)) found ≡ false → Counts first → is_for_memory first ≡ false → LeadsBy (summary trace) table events first new
      lead_first none counts not = by first refl
        where
          by : (stop : Option Stop) → first ≡ stop → LeadsBy (summary trace) table events stop new
          by None is =
              let m : accepted_of events first ≡ length events = ap (accepted_of events) is in
              lead_none is reached m (omega arith) none (counts_at first reached refl (omega arith) counts)
          by (Some stop) is =
              let m : accepted_of events first ≡ stop.place = ap (accepted_of events) is in
              lead_some stop is (omega (arith, m)) (subst (λ (k : ℕ). is_found_by (length (with_events k)) found ≡ false) m none)
              (subst (λ (k : ℕ). new.events ≡ length (with_events k)) m (counts_at first reached refl (omega arith) counts))
              (sym (ap is_for_memory is) ∙ not)

      abbrev test : ℕ → Bool
      test event = nat_lt before event && nat_le (event - before) reached

      abbrev chosen : ℕ → Bool → Option Stop
      chosen event t = if t then Some (full_stop (event - before - 1)) else first

      both_true : (x y : Bool) → (x && y) ≡ true → (x ≡ true) × (y ≡ true)
      both_true true true h = (refl, refl)
      both_true true false h = absurd (false≢true h)
      both_true false y h = absurd (false≢true h)

      second_false : (x y : Bool) → x ≡ true → (x && y) ≡ false → y ≡ false
      second_false true y is h = h
      second_false false y is h = absurd (false≢true is)

      choose : (event : ℕ) → found ≡ Some event → (t : Bool) → test event ≡ t → Counts (chosen event t) → is_for_memory (chosen event t) ≡ false → LeadsBy (summary trace) table events (chosen event t) new
      choose event is true holds counts not =
          let parts = both_true (nat_lt before event) (nat_le (event - before) reached) holds in
          let lt = ltb-true before event parts.0 in
          let le = leb-true (event - before) reached parts.1 in
          lead_full event (event - before - 1) is (omega (arith, lt, is_before)) (omega (arith, lt, le))
          (counts_at (Some (full_stop (event - before - 1))) (event - before - 1) refl (omega (arith, lt, le)) counts)
      choose event is false fails counts not =
          let late = leb-false event (length trace) (sym (ap (is_found_by (length trace)) is) ∙ not_before) in
          let lt : before < event = omega (arith, late, is_before) in
          let behind = leb-false (event - before) reached (second_false (nat_lt before event) (nat_le (event - before) reached) (lt-ltb before event lt) fails) in
          let len = length_with reached (omega arith) in
          lead_first (ap (is_found_by (length (with_events reached))) is ∙ lt-leb event (length (with_events reached)) (omega (arith, lt, behind, len, is_before))) counts not

      lead : (seen : Option ℕ) → found ≡ seen → Counts (one_stop before events first seen) → is_for_memory (one_stop before events first seen) ≡ false → LeadsBy (summary trace) table events (one_stop before events first seen) new
      lead None is counts not = lead_first (ap (is_found_by (length (with_events reached))) is) counts not
      lead (Some event) is counts not = choose event is (test event) refl counts not

-- ---- a judge

-- What a batch leads to, by what it came to at the shards of all parts.
pub judges_by : (old new : Judge) (events : List Named) (first : Option Stop) (found : Option ℕ) (news : List Shard) (stop : Option Stop) (count : ℕ) (sees : ℕ → Event → Bool)
    → ((trace : List Named) (table : Table) → IsAccepted trace → AreAllParts (KnowsTrace old.limit trace) old.shards.shards.items → HasSets old.limit (asked anywhere (events_of trace)) table
    → HasTaken old.limit old.shards.shards.items old.taking → IsBatch old.limit trace table events first found count sees news × HasTaken old.limit news new.taking)
    → stop ≡ one_stop old.events events first found → new.limit ≡ old.limit → new.shards.shards.items ≡ news
    → (old.events + accepted_of events stop < 2 ^ 64 → new.events ≡ old.events + accepted_of events stop) → is_for_memory stop ≡ false → Judges old events stop new
judges_by old new events first found news stop count sees batch stop_is limit_is shards_are counts not = λ c table h.
    subst (λ (d : Content). LeadsBy d table events stop new) (sym h.content)
    (subst (λ (s : Option Stop). LeadsBy (summary h.trace) table events s new) (sym stop_is)
    (let b = batch h.trace table h.judged.accepted h.parts h.sets h.taken in
    lead old.limit h.trace table events first found count sees news b.0 new limit_is shards_are b.1 old.events h.judged.count found refl
    (subst (λ (s : Option Stop). old.events + accepted_of events s < 2 ^ 64 → new.events ≡ old.events + accepted_of events s) stop_is counts)
    (ap is_for_memory (sym stop_is) ∙ not)))

pub judges_lem : (old new : Judge) (events : List Named) (first : Option Stop) (found : Option ℕ) (news : List Shard) (stop : Option Stop) → TakeBatch old.shards.shards.items events first news
    → (HasTaken old.limit news old.taking → IsFirstFull old.limit news found × HasTaken old.limit news new.taking) → stop ≡ one_stop old.events events first found → new.limit ≡ old.limit → new.shards.shards.items ≡ news
    → (old.events + accepted_of events stop < 2 ^ 64 → new.events ≡ old.events + accepted_of events stop) → is_for_memory stop ≡ false → Judges old events stop new
judges_lem old new events first found news stop took full =
    judges_by old new events first found news stop (length old.shards.shards.items) sees_all
    (λ trace table ok all has taken.
    let now = full
    (still_taken old.limit trace (length old.shards.shards.items) old.shards.shards.items news old.taking old.shards.ready all.1 (each_batch_grows old.shards.shards.items events took.stops news took.each) taken) in (
      record {
        stops = took.stops;
        each = each_batch events trace old.limit (length old.shards.shards.items) 0 old.shards.shards.items took.stops news took.each all.1;
        first_is = took.first_is;
        seen = λ e. (0, all.0, refl);
        some = all.0;
        full = now.0;
        has = has;
        ok = ok;
      },
      now.1,
    ))

begins_from : (count limit k : ℕ) (shards : List Shard) → k + length shards ≡ count → ((j : ℕ) (d : Shard) → j < length shards → BeginsFor count (k + j) limit (get_or shards j d))
    → ArePartsFrom (KnowsTrace limit []) count k shards × ArePartsFrom (GoesOn []) count k shards
begins_from count limit k [] all h = (omega (arith, all), omega (arith, all))
begins_from count limit k (s ∷ shards) all h =
    let one : BeginsFor count k limit s = subst (λ (m : ℕ). BeginsFor count m limit s) (omega arith) (h 0 s (omega arith)) in
    let rest = begins_from count limit (k + 1) shards (omega (arith, all)) (λ j d lt. subst (λ (m : ℕ). BeginsFor count m limit (get_or shards j d)) (omega arith) (h (suc j) d (omega arith))) in (
      (record { count_is = one.count_is; part_is = one.part_is; has = (one.follows, one.sets) }, rest.0),
      (record { count_is = one.count_is; part_is = one.part_is; has = follows_on [] s limit one.follows one.sets }, rest.1),
    )

pub begins_lem : (count limit : ℕ) (j : Judge) → 0 < count → 0 < limit → AllBegin count limit j.shards.shards.items → j.limit ≡ limit → j.events ≡ 0 → j.taking ≡ None → IsAt empty_content (first_table limit) j
begins_lem count limit j some room h limit_is none no_table =
    let len = h.count_is in
    let both = begins_from count limit 0 j.shards.shards.items (omega (arith, len)) (λ k d lt. subst (λ (m : ℕ). BeginsFor count m limit (get_or j.shards.shards.items k d)) (let e : k ≡ 0 + k = omega arith in e) (h.begin k d (omega (arith, len, lt)))) in
    record {
      trace = [];
      content = refl;
      judged = record { accepted = tt; count = none; parts = (omega (arith, some, len), subst (λ (n : ℕ). ArePartsFrom (GoesOn []) n 0 j.shards.shards.items) (sym len) both.1) };
      parts = (
        omega (arith, some, len),
        subst (λ (l : ℕ). ArePartsFrom (KnowsTrace l []) (length j.shards.shards.items) 0 j.shards.shards.items) (sym limit_is)
            (subst (λ (n : ℕ). ArePartsFrom (KnowsTrace limit []) n 0 j.shards.shards.items) (sym len) both.0),
      );
      sets = subst (λ (l : ℕ). HasSets l [] (first_table limit)) (sym limit_is) (tables_answer_lem limit room).0;
      taken = subst (λ (t : Option Taking). HasTaken j.limit j.shards.shards.items t) (sym no_table) tt;
    }
