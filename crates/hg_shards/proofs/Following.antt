-- A shard that sees some events of a batch.
use Rattle.std.proofs.Common.{◌≡◌, ⊎_elim, ℕ, zero, suc, ◌+◌, ◌-◌, ◌^◌, ◌<◌, ◌≤◌, Bool, true, false, nat_lt, List, [], ◌∷◌, ◌++◌, length, take, drop, reverse, slice_get, Option, Some, Result, Ok, refl, sym, ap, ◌∙◌, subst, arith, append-nil, append_assoc, length-append}
use Rattle.std.proofs.lemmas.Bool.{false≢true, cases_lt}
use Rattle.std.proofs.lemmas.List.{reverse-append, length-reverse}
use Rattle.std.specs.List.{AllByRecursion}
use Rattle.std.specs.Prelude.{if◌then◌else◌}
use Rattle.hg_model.specs.declared.event.Event.{Event}
use Rattle.hg_model.specs.declared.event.Named.{Named}
use Rattle.hg_model.specs.declared.report.Report.{Report}
use Rattle.hg_model.specs.declared.verdict.Refusal.{Refusal}
use Rattle.hg_model.specs.declared.verdict.Refusal.TheVariants.{OutOfMemory}
use Rattle.hg_model.specs.declared.verdict.Verdict.TheVariants.{Accept}
use Rattle.hg_model.specs.Verdicts.{IsAccepted}
use Rattle.hg_rules.specs.Counting.{counted_on}
use Rattle.hg_cells.specs.declared.paged.PagedWords.{PagedWords}
use Rattle.hg_detect.specs.declared.detector.Answer.{Answer}
use Rattle.hg_detect.specs.declared.detector.Answer.TheVariants as answers
use Rattle.hg_detect.specs.declared.detector.Detector.{Detector}
use Rattle.hg_detect.specs.Memory.{content_of}
use Rattle.hg_shards.specs.declared.shard.Shard.{Shard}
use Rattle.hg_shards.specs.Asking.{has_set}
use Rattle.hg_shards.specs.Following.{SeesUpto, upto}
use Rattle.hg_shards.specs.Logging.{Log}
use Rattle.hg_shards.specs.Sharding.{AnswersShard, ArePassed, Follows, GoesOn, HasMade, HasOwnSets, IsPassed, IsReady, Knows, MovesOn, PassesOver, own_words, reports_of_group, verdict_after}
use Rattle.hg_shards.proofs.Batches.{one_onto}
use Rattle.hg_shards.proofs.Logging.{all_both, all_weaker}
use Rattle.hg_shards.proofs.Noting.{accept_of, at_each}
use Rattle.hg_shards.proofs.Passing.{accepted_before, counted, few_events, knows_all, sets_all}

-- ---- what a shard has, goes on

moved : (trace : List Named) (s : Shard) (d : Detector PagedWords) (l : Log) → GoesOn trace s → MovesOn s (record s { detector = d; log = l }) → GoesOn trace (record s { detector = d; log = l })
moved trace s d l g m =
    record {
      counted = let le = g.counted in let more = m.events in omega (arith, le, more);
      late = g.late ++ m.late;
      reports = m.reports (reports_of_group (own_words s) trace ++ g.late) g.reports ∙ ap (take 65536) (append_assoc (reports_of_group (own_words s) trace) g.late m.late);
      later = all_both (λ (r : Report). length trace < r.event) g.late m.late g.later
          (all_weaker (λ (r : Report). s.detector.parts.events < r.event) (λ (r : Report). length trace < r.event) m.late (λ r lt. let le = g.counted in omega (arith, le, lt)) m.later);
      log =
          at_each (HasMade s) (HasMade (record s { detector = d; log = l })) (length trace) trace (omega arith)
          (λ past le has set. ap (λ (sets : List (List ℕ)). has_set sets set) (m.made (length past) (let more = g.counted in omega (arith, le, more))) ∙ has set)
          g.log;
    }

-- a shard that has what a trace makes still has it where it goes on
pub moves_on : (trace : List Named) (s new : Shard) → new ≡ record s { detector = new.detector; log = new.log } → GoesOn trace s → MovesOn s new → GoesOn trace new
moves_on trace s new is g m =
    subst (λ (x : Shard). GoesOn trace x) (sym is) (moved trace s new.detector new.log g (subst (λ (x : Shard). MovesOn s x) is m))

-- a shard that follows a trace has what it makes
pub follows_on : (trace : List Named) (s : Shard) (limit : ℕ) → Follows trace s → HasOwnSets limit trace s → GoesOn trace s
follows_on trace s limit k own =
    record {
      counted = let e = k.content.events in omega (arith, e);
      late = [];
      reports = k.reports ∙ ap (take 65536) (sym (append-nil (reports_of_group (own_words s) trace)));
      later = tt;
      log = own.log;
    }

no_less : (n more count : ℕ) → more ≤ count → n + more ≤ 2 ^ 58 → n + more ≤ counted_on n count
no_less n more count le few = by (nat_lt (n + count) (2 ^ 64)) refl
  where
    by : (b : Bool) → nat_lt (n + count) (2 ^ 64) ≡ b → n + more ≤ (if b then n + count else 2 ^ 64 - 1)
    by true is = omega (arith, le)
    by false is = omega (arith, few)

-- a shard that passed over events has what the first of them make
pub passed_on : (trace events : List Named) (s new : Shard) (source count limit : ℕ) → PassesOver s source count new → length events ≤ count → AllByRecursion (IsPassed (own_words s) source) events
    → IsAccepted (reverse events ++ trace) → Follows trace s → HasOwnSets limit trace s → IsReady s → GoesOn (reverse events ++ trace) new
passed_on trace events s new source count limit p le each ok k own ready =
    subst (λ (x : Shard). GoesOn (reverse events ++ trace) x) (sym p.rest)
    (subst (λ (x : Detector PagedWords). length (reverse events ++ trace) ≤ x.parts.events → GoesOn (reverse events ++ trace) (record s { detector = x })) (sym p.detector.rest) (λ far.
    record {
      counted = far;
      late = [];
      reports = known.reports ∙ ap (take 65536) (sym (append-nil (reports_of_group (own_words s) (reverse events ++ trace))));
      later = tt;
      log = sets.log;
    }) far_enough)
  where
    known : Knows (own_words s) (reverse events ++ trace) (counted (content_of s.detector) source (length events))
    known = knows_all (own_words s) source events trace (content_of s.detector) each ok k

    sets : HasOwnSets limit (reverse events ++ trace) s
    sets = sets_all s limit source events trace (subst (λ (n : ℕ). AllByRecursion (λ e. e ≤ n) s.log.events) (sym k.content.events) ready.log.past) each ok own

    far_enough : length (reverse events ++ trace) ≤ new.detector.parts.events
    far_enough =
        let few = few_events (reverse events ++ trace) ok in
        let both = length-append (reverse events) trace in
        let turned = length-reverse events in
        let all = k.content.events in
        let now = no_less s.detector.parts.events (length events) count le (omega (arith, few, both, turned, all)) in
        let is = p.detector.counts.events in
        omega (arith, both, turned, all, now, is)

-- ---- places of a batch

take_nil : (n : ℕ) → ◌≡◌ {A = List Named} (take n []) []
take_nil zero = refl
take_nil (suc n) = refl

take_further : (p j : ℕ) (xs : List Named) → take (p + j) xs ≡ take p xs ++ take j (drop p xs)
take_further zero j xs = ap (λ n. take n xs) (let e : 0 + j ≡ j = omega arith in e)
take_further (suc p) j [] = take_nil (suc p + j) ∙ sym (take_nil j)
take_further (suc p) j (x ∷ xs) = ap (λ n. take n (x ∷ xs)) (let e : suc p + j ≡ suc (p + j) = omega arith in e) ∙ ap (λ ys. x ∷ ys) (take_further p j xs)

-- the trace with more events of the batch
further : (events trace : List Named) (p j : ℕ) → upto events trace (p + j) ≡ reverse (take j (drop p events)) ++ upto events trace p
further events trace p j =
    ap (λ xs. reverse xs ++ trace) (take_further p j events) ∙ ap (λ xs. xs ++ trace) (reverse-append (take p events) (take j (drop p events)))
    ∙ append_assoc (reverse (take j (drop p events))) (reverse (take p events)) trace

pub earlier_accepted : (events trace : List Named) (i p : ℕ) → i ≤ p → IsAccepted (upto events trace p) → IsAccepted (upto events trace i)
earlier_accepted events trace i p le ok =
    accepted_before (reverse (take (p - i) (drop i events))) (upto events trace i)
    (subst IsAccepted (ap (λ n. upto events trace n) (let e : p ≡ i + (p - i) = omega (arith, le) in e) ∙ further events trace i (p - i)) ok)

each_shorter : (P : Named → Type 0) (j gap : ℕ) (xs : List Named) → j ≤ gap → AllByRecursion P (take gap xs) → AllByRecursion P (take j xs)
each_shorter P zero gap xs le h = tt
each_shorter P (suc j) zero xs le h = absurd (omega (arith, le))
each_shorter P (suc j) (suc gap) [] le h = tt
each_shorter P (suc j) (suc gap) (x ∷ xs) le h = (h.0, each_shorter P j gap xs (omega (arith, le)) h.1)

each_at : (P : Named → Type 0) (p gap i : ℕ) (xs : List Named) (n : Named) → AllByRecursion P (take gap (drop p xs)) → p ≤ i → i < p + gap → slice_get xs i ≡ Some n → P n
each_at P p gap i [] n h le lt is = absurd (cc is)
each_at P zero zero i (x ∷ xs) n h le lt is = absurd (omega (arith, lt))
each_at P zero (suc gap) zero (x ∷ xs) n h le lt is = subst P (cc is) h.0
each_at P zero (suc gap) (suc i) (x ∷ xs) n h le lt is = each_at P zero gap i xs n h.1 (omega arith) (omega (arith, lt)) is
each_at P (suc p) gap zero (x ∷ xs) n h le lt is = absurd (omega (arith, le))
each_at P (suc p) gap (suc i) (x ∷ xs) n h le lt is = each_at P p gap i xs n h (omega (arith, le)) (omega (arith, lt)) is

short_take : (j : ℕ) (xs : List Named) → length (take j xs) ≤ j
short_take zero xs = omega arith
short_take (suc j) [] = omega arith
short_take (suc j) (x ∷ xs) = let le = short_take j xs in omega (arith, le)

full_take : (j : ℕ) (xs : List Named) → j ≤ length xs → length (take j xs) ≡ j
full_take zero xs le = refl
full_take (suc j) [] le = absurd (omega (arith, le))
full_take (suc j) (x ∷ xs) le = let e = full_take j xs (omega (arith, le)) in omega (arith, e)

length_drop : (p : ℕ) (xs : List Named) → length (drop p xs) ≡ length xs - p
length_drop zero xs = omega arith
length_drop (suc p) [] = omega arith
length_drop (suc p) (x ∷ xs) = let e = length_drop p xs in omega (arith, e)

-- ---- the steps of a shard

module _ (old : Shard) (events : List Named) (sees : Event → Bool) where
  pub sees_none : IsReady old → SeesUpto old events sees 0 old
  sees_none ready =
      record {
        rest = refl;
        ready = ready;
        accepts = λ trace k i n lt. absurd (omega (arith, lt));
        follows = λ trace k ok. k;
        sets = λ trace k ok limit own. own;
        goes_on = λ trace k limit own i le ok. subst (λ (n : ℕ). GoesOn (upto events trace n) old) (let e : 0 ≡ i = omega (arith, le) in e) (follows_on trace old limit k own);
      }

  -- an event that is passed over
  abbrev pub IsUnseen : ℕ → Named → Type 0
  IsUnseen source n = IsPassed (own_words old) source n × (sees n.event ≡ false)

  module _ (p : ℕ) (s : Shard) (h : SeesUpto old events sees p s) where
    same_words : own_words s ≡ own_words old
    same_words = ap own_words h.rest

    -- events are passed over
    pub sees_passed : (source gap : ℕ) (new : Shard) → PassesOver s source gap new → p + gap ≤ length events → AllByRecursion (IsUnseen source) (take gap (drop p events)) → SeesUpto old events sees (p + gap) new
    sees_passed source gap new over fits each =
        record {
          rest = over.rest ∙ ap (λ (x : Shard). record x { detector = new.detector }) h.rest ∙ ap (λ (l : Log). record old { detector = new.detector; log = l }) (sym (ap (λ (x : Shard). x.log) over.rest));
          ready = over.ready;
          accepts = λ trace k i n lt at seen ok.
              ⊎_elim
              (λ (low : i < p). h.accepts trace k i n low at seen ok)
              (λ (high : p ≤ i). absurd (false≢true (sym (each_at (IsUnseen source) p gap i events n each high lt at).1 ∙ seen)))
              (cases_lt i p);
          follows = λ trace k ok.
              subst (λ (t : List Named). Follows t new) (sym (further events trace p gap))
              (over.follows (upto events trace p) (take gap (drop p events)) (passed trace ok) (h.follows trace k (earlier_accepted events trace p (p + gap) (omega arith) ok)));
          sets = λ trace k ok limit own.
              let before = earlier_accepted events trace p (p + gap) (omega arith) ok in
              subst (λ (t : List Named). HasOwnSets limit t new) (sym (further events trace p gap))
              (over.sets (upto events trace p) (take gap (drop p events)) (passed trace ok) (h.follows trace k before) limit (h.sets trace k before limit own));
          goes_on = λ trace k limit own i le ok.
              ⊎_elim
              (λ (low : i < p). moves_on (upto events trace i) s new moved_rest (h.goes_on trace k limit own i (omega (arith, low)) ok) over.moves)
              (λ (high : p ≤ i).
              let before = earlier_accepted events trace p i high ok in
              let is = ap (λ n. upto events trace n) (let e : i ≡ p + (i - p) = omega (arith, high) in e) ∙ further events trace p (i - p) in
              subst (λ (t : List Named). GoesOn t new) (sym is)
              (passed_on (upto events trace p) (take (i - p) (drop p events)) s new source gap limit over
              (let short = short_take (i - p) (drop p events) in omega (arith, short, le, high))
              (own_each (i - p) (omega (arith, le, high))) (subst IsAccepted is ok) (h.follows trace k before) (h.sets trace k before limit own) h.ready))
              (cases_lt i p);
        }
      where
        moved_rest : new ≡ record s { detector = new.detector; log = new.log }
        moved_rest = over.rest ∙ ap (λ (l : Log). record s { detector = new.detector; log = l }) (ap (λ (x : Shard). x.log) (sym over.rest))

        own_each : (j : ℕ) → j ≤ gap → AllByRecursion (IsPassed (own_words s) source) (take j (drop p events))
        own_each j le =
            subst (λ (w : ℕ → Bool). AllByRecursion (IsPassed w source) (take j (drop p events))) (sym same_words)
            (all_weaker (IsUnseen source) (IsPassed (own_words old) source) (take j (drop p events)) (λ n u. u.0) (each_shorter (IsUnseen source) j gap (drop p events) le each))

        passed : (trace : List Named) → IsAccepted (upto events trace (p + gap)) → ArePassed (own_words s) source gap (upto events trace p) (take gap (drop p events))
        passed trace ok =
            record {
              many = full_take gap (drop p events) (let e = length_drop p events in omega (arith, e, fits));
              each = own_each gap (omega arith);
              accepted = subst IsAccepted (further events trace p gap) ok;
            }

    -- an event is seen and accepted
    pub sees_one : (n : Named) (answer : Result Answer Refusal) (new : Shard) → slice_get events p ≡ Some n → answer ≡ Ok answers.Accepted → AnswersShard s n answer new → SeesUpto old events sees (p + 1) new
    sees_one n answer new at was given =
        record {
          rest = a.rest ∙ ap (λ (x : Shard). record x { detector = new.detector; log = new.log }) h.rest;
          ready = a.ready;
          accepts = λ trace k i m lt here seen ok.
              ⊎_elim
              (λ (low : i < p). h.accepts trace k i m low here seen ok)
              (λ (high : p ≤ i).
              let e : i ≡ p = omega (arith, high, lt) in
              let same : n ≡ m = one_there (sym at ∙ ap (slice_get events) (sym e) ∙ here) in
              subst (λ (x : Named). verdict_after (upto events trace i) x ≡ Accept) same
              (subst (λ (j : ℕ). verdict_after (upto events trace j) n ≡ Accept) (sym e) (accepted trace k (subst (λ (j : ℕ). IsAccepted (upto events trace j)) e ok))))
              (cases_lt i p);
          follows = λ trace k ok. followed trace k ok;
          sets = λ trace k ok limit own. own_sets trace k ok limit own;
          goes_on = λ trace k limit own i le ok.
              ⊎_elim
              (λ (low : i < p + 1). moves_on (upto events trace i) s new a.rest (h.goes_on trace k limit own i (omega (arith, low)) ok) a.moves)
              (λ (high : p + 1 ≤ i).
              let e : p + 1 ≡ i = omega (arith, high, le) in
              let now = subst (λ (j : ℕ). IsAccepted (upto events trace j)) (sym e) ok in
              subst (λ (j : ℕ). GoesOn (upto events trace j) new) e (follows_on (upto events trace (p + 1)) new limit (followed trace k now) (own_sets trace k now limit own)))
              (cases_lt i (p + 1));
        }
      where
        a : AnswersShard s n (Ok answers.Accepted) new
        a = subst (λ (r : Result Answer Refusal). AnswersShard s n r new) was given

        one_there : {x y : Named} → ◌≡◌ {A = Option Named} (Some x) (Some y) → x ≡ y
        one_there q = cc q

        accepted : (trace : List Named) → Follows trace old → IsAccepted (upto events trace p) → verdict_after (upto events trace p) n ≡ Accept
        accepted trace k ok = accept_of (verdict_after (upto events trace p) n) (λ r. r ≡ OutOfMemory) (a.after_any (upto events trace p) (h.follows trace k ok)).answered

        followed : (trace : List Named) → Follows trace old → IsAccepted (upto events trace (p + 1)) → Follows (upto events trace (p + 1)) new
        followed trace k ok =
            subst (λ (t : List Named). Follows t new) (sym (one_onto events p n trace at))
            (a.after_any (upto events trace p) (h.follows trace k (earlier_accepted events trace p (p + 1) (omega arith) ok))).follows

        own_sets : (trace : List Named) → Follows trace old → IsAccepted (upto events trace (p + 1)) → (limit : ℕ) → HasOwnSets limit trace old → HasOwnSets limit (upto events trace (p + 1)) new
        own_sets trace k ok limit own =
            let before = earlier_accepted events trace p (p + 1) (omega arith) ok in
            subst (λ (t : List Named). HasOwnSets limit t new) (sym (one_onto events p n trace at))
            ((a.after_any (upto events trace p) (h.follows trace k before)).sets limit (h.sets trace k before limit own) refl)
