-- Accesses of other parts, passed over at once.
use Rattle.std.proofs.Common.{◌≡◌, ℕ, suc, ◌+◌, ◌-◌, ◌^◌, ◌<◌, ◌≤◌, ◌&&◌, nat_le, Bool, true, false, List, [], ◌∷◌, ◌++◌, length, reverse, refl, sym, ap, ◌∙◌, subst, arith, append-nil, append_assoc}
use Rattle.std.proofs.lemmas.Bool.{false≢true, leb-false, lt-ltb, ltb-false, or_parts}
use Rattle.std.proofs.lemmas.List.Sums.{count_by-le-length}
use Rattle.std.proofs.lemmas.List.{reverse-append}
use Rattle.std.specs.List.{AllByRecursion, flat_map}
use Rattle.std.specs.Prelude.{◌==◌, if◌then◌else◌, slice_index}
use Rattle.hg_model.specs.declared.event.Event.{Event}
use Rattle.hg_model.specs.declared.event.Event.TheVariants.{Read, Write, Alloc, Free, Fork, Join, Lock, RdLock, Unlock, Send, Recv}
use Rattle.hg_model.specs.declared.event.Named.{Named}
use Rattle.hg_model.specs.Contents.{Content, events_of, summary}
use Rattle.hg_model.specs.Change.{word_after}
use Rattle.hg_model.specs.Verdicts.{IsAccepted, bad_number, is_bad_source, is_bad_thread, standing_of}
use Rattle.hg_model.proofs.Accepted.{no_cause}
use Rattle.hg_rules.specs.Counting.{counted_on}
use Rattle.hg_cells.specs.declared.paged.PagedWords.{PagedWords}
use Rattle.hg_detect.specs.declared.detector.Detector.{Detector}
use Rattle.hg_detect.specs.Answering.{PassesAll, after_passing}
use Rattle.hg_detect.specs.Making.{sets_in}
use Rattle.hg_detect.specs.Memory.{IsWhole, content_of}
use Rattle.hg_detect.specs.Shown.{reports_of}
use Rattle.hg_shards.specs.Alike.{PassesBy, is_of_memory}
use Rattle.hg_shards.specs.Asking.{HasSets, asked, asked_at_last, has_set}
use Rattle.hg_shards.specs.Logging.{made_by}
use Rattle.hg_shards.specs.Sharding.{HasOwnSets, IsPassed, IsReady, Knows, PassesOver, own_words}
use Rattle.hg_shards.specs.declared.shard.Shard.{Shard}
use Rattle.hg_shards.proofs.Asking.{sets_are_lem}
use Rattle.hg_shards.proofs.Going.{reports_stay}
use Rattle.hg_shards.proofs.Logging.{all_weaker, made_all}
use Rattle.hg_shards.proofs.Offering.{none_accessed}
use Rattle.hg_shards.proofs.Sharding.{knows_passed}

-- the content with so many events more of a source
abbrev pub counted : Content → ℕ → ℕ → Content
counted c source n = record c { events = c.events + n; last = λ s. if source == s then c.last s + n else c.last s }

pub accepted_before : (more past : List Named) → IsAccepted (more ++ past) → IsAccepted past
accepted_before [] past h = h
accepted_before (n ∷ more) past h = accepted_before more past h.0

pub turned : (n : Named) (events trace : List Named) → reverse (n ∷ events) ++ trace ≡ reverse events ++ (n ∷ trace)
turned n events trace = ap (λ xs. xs ++ trace) (reverse-append (n ∷ []) events) ∙ append_assoc (reverse events) (n ∷ []) trace

none_more : (c : Content) (source : ℕ) → c ≡ counted c source 0
none_more c source = λ i. record c { events = (let e : c.events ≡ c.events + 0 = omega arith in e) i; last = λ s. same s (source == s) i }
  where
    same : (s : ℕ) (b : Bool) → c.last s ≡ (if b then c.last s + 0 else c.last s)
    same s true = omega arith
    same s false = refl

one_more : (c : Content) (source n : ℕ) → counted (after_passing c source) source n ≡ counted c source (suc n)
one_more c source n = λ i. record c { events = (let e : c.events + 1 + n ≡ c.events + suc n = omega arith in e) i; last = λ s. same s (source == s) i }
  where
    same : (s : ℕ) (b : Bool) → (if b then (if b then c.last s + 1 else c.last s) + n else (if b then c.last s + 1 else c.last s)) ≡ (if b then c.last s + suc n else c.last s)
    same s true = omega arith
    same s false = refl

-- the contents of a part that passes over events
pub knows_all : (within : ℕ → Bool) (source : ℕ) (events trace : List Named) (c : Content) → AllByRecursion (IsPassed within source) events → IsAccepted (reverse events ++ trace) → Knows within trace c
    → Knows within (reverse events ++ trace) (counted c source (length events))
knows_all within source [] trace c each ok k = subst (λ (d : Content). Knows within trace d) (none_more c source) k
knows_all within source (n ∷ events) trace c each ok k =
    let now = subst IsAccepted (turned n events trace) ok in
    let one = (accepted_before (reverse events) (n ∷ trace) now).1 in
    let passed = knows_passed within trace c k n one each.0.by in
    let rest = knows_all within source events (n ∷ trace) (after_passing c source) each.1 now
    (subst (λ (s : ℕ). Knows within (n ∷ trace) (after_passing c s)) each.0.source_is passed) in
    subst (λ (d : Content). Knows within (reverse (n ∷ events) ++ trace) d) (one_more c source (length events))
    (subst (λ (t : List Named). Knows within t (counted (after_passing c source) source (length events))) (sym (turned n events trace)) rest)

-- ---- the sets of a part that passes over events

module _ (s : Shard) where
  asks_nothing : (n : Named) (trace : List Named) → IsAccepted (n ∷ trace) → PassesBy (own_words s) n.event → asked_at_last (own_words s) (events_of (n ∷ trace)) ≡ []
  asks_nothing n trace ok by =
      sym ((sets_are_lem n trace ok).0 (own_words s)) ∙ ap (flat_map (λ w. sets_in (word_after (summary trace) n.event w))) (none_accessed (own_words s) n.event by)

  same_asked : (n : Named) (trace : List Named) → IsAccepted (n ∷ trace) → PassesBy (own_words s) n.event → asked (own_words s) (events_of (n ∷ trace)) ≡ asked (own_words s) (events_of trace)
  same_asked n trace ok by =
      ap (λ (more : List (List ℕ)). asked (own_words s) (events_of trace) ++ more) (asks_nothing n trace ok by) ∙ append-nil (asked (own_words s) (events_of trace))

  sets_passed : (limit : ℕ) (n : Named) (trace : List Named) → AllByRecursion (λ e. e ≤ length trace) s.log.events → IsAccepted (n ∷ trace) → PassesBy (own_words s) n.event → HasOwnSets limit trace s
      → HasOwnSets limit (n ∷ trace) s
  sets_passed limit n trace past ok by own =
      let has = subst (λ (sets : List (List ℕ)). HasSets limit sets s.detector.sets) (sym (same_asked n trace ok by)) own.sets in
      record {
        sets = has;
        logged = own.logged;
        log = (
          λ set.
              ap (λ (sets : List (List ℕ)). has_set sets set)
              (made_all (length (n ∷ trace)) s.detector.sets.sets s.log.events own.logged (all_weaker (λ e. e ≤ length trace) (λ e. e ≤ length (n ∷ trace)) s.log.events (λ e le. omega (arith, le)) past))
              ∙ has.members set,
          own.log,
        );
      }

  pub sets_all : (limit source : ℕ) (events trace : List Named) → AllByRecursion (λ e. e ≤ length trace) s.log.events → AllByRecursion (IsPassed (own_words s) source) events → IsAccepted (reverse events ++ trace)
      → HasOwnSets limit trace s → HasOwnSets limit (reverse events ++ trace) s
  sets_all limit source [] trace past each ok own = own
  sets_all limit source (n ∷ events) trace past each ok own =
      let now = subst IsAccepted (turned n events trace) ok in
      let one = accepted_before (reverse events) (n ∷ trace) now in
      subst (λ (t : List Named). HasOwnSets limit t s) (sym (turned n events trace))
      (sets_all limit source events (n ∷ trace) (all_weaker (λ e. e ≤ length trace) (λ e. e ≤ length (n ∷ trace)) s.log.events (λ e le. omega (arith, le)) past) each.1 now
      (sets_passed limit n trace past one each.0.by own))

-- ---- what was counted

pub few_events : (trace : List Named) → IsAccepted trace → length trace ≤ 2 ^ 58
few_events [] h = omega arith
few_events (n ∷ past) h =
    let few = leb-false (2 ^ 58) (length past) (no_cause (standing_of (summary past)) n h.1).1.1.1.1.1.1.1.1.1.1.1.1.1.1.1.1.0 in
    omega (arith, few)

-- an accepted event of memory has a source that there may be
lawful_source : (source : ℕ) (e : Event) → is_of_memory e ≡ true → bad_number source e ≡ false → source ≤ 1023
lawful_source source (Read a) h ok = ltb-false 1023 source (or_parts (is_bad_source source) (is_bad_thread a.t) ok).0
lawful_source source (Write a) h ok = ltb-false 1023 source (or_parts (is_bad_source source) (is_bad_thread a.t) ok).0
lawful_source source (Alloc b) h ok = ltb-false 1023 source (or_parts (is_bad_source source) (is_bad_thread b.t) ok).0
lawful_source source (Free b) h ok = ltb-false 1023 source (or_parts (is_bad_source source) (is_bad_thread b.t) ok).0
lawful_source source (Fork p c) h ok = absurd (false≢true h)
lawful_source source (Join p c) h ok = absurd (false≢true h)
lawful_source source (Lock t l) h ok = absurd (false≢true h)
lawful_source source (RdLock t l) h ok = absurd (false≢true h)
lawful_source source (Unlock t l) h ok = absurd (false≢true h)
lawful_source source (Send t m) h ok = absurd (false≢true h)
lawful_source source (Recv t m) h ok = absurd (false≢true h)

source_lawful : (within : ℕ → Bool) (source : ℕ) (events trace : List Named) → AllByRecursion (IsPassed within source) events → IsAccepted (reverse events ++ trace) → 1023 < source → length events ≡ 0
source_lawful within source [] trace each ok high = refl
source_lawful within source (n ∷ events) trace each ok high =
    let one = accepted_before (reverse events) (n ∷ trace) (subst IsAccepted (turned n events trace) ok) in
    let low = lawful_source n.source n.event each.0.by.memory (no_cause (standing_of (summary trace)) n one.1).0 in
    let same = each.0.source_is in
    absurd (omega (arith, high, low, same))

pub on_small : (n more : ℕ) → n + more < 2 ^ 64 → counted_on n more ≡ n + more
on_small n more lt = ap (λ b. if b then n + more else 2 ^ 64 - 1) (lt-ltb (n + more) (2 ^ 64) lt)

module _ (within : ℕ → Bool) (source : ℕ) (events trace : List Named) (old d : Detector PagedWords) (each : AllByRecursion (IsPassed within source) events) (ok : IsAccepted (reverse events ++ trace))
    (k : Knows within trace (content_of old)) (h : PassesAll old source (length events) d) where
  then_knows : Knows within (reverse events ++ trace) (counted (content_of old) source (length events))
  then_knows = knows_all within source events trace (content_of old) each ok k

  events_are : d.parts.events ≡ old.parts.events + length events
  events_are =
      let few = few_events (reverse events ++ trace) ok in
      let many = then_knows.content.events in
      h.counts.events ∙ on_small old.parts.events (length events) (omega (arith, few, many))

  last_few : (s : ℕ) → (counted (content_of old) source (length events)).last s ≤ 2 ^ 58
  last_few s =
      let few = few_events (reverse events ++ trace) ok in
      let le = count_by-le-length (λ (n : Named). n.source == s) (reverse events ++ trace) in
      let is = ap (λ (f : ℕ → ℕ). f s) then_knows.last in
      omega (arith, few, le, is)

  last_are : (s : ℕ) → slice_index d.parts.last s ≡ (counted (content_of old) source (length events)).last s
  last_are s = h.counts.last s ∙ by (source == s) (nat_le source 1023) refl (last_few s)
    where
      by : (same low : Bool) → nat_le source 1023 ≡ low → (if same then slice_index old.parts.last s + length events else slice_index old.parts.last s) ≤ 2 ^ 58
          → (if (same && low) then counted_on (slice_index old.parts.last s) (length events) else slice_index old.parts.last s) ≡ (if same then slice_index old.parts.last s + length events else slice_index old.parts.last s)
      by true true is few = on_small (slice_index old.parts.last s) (length events) (omega (arith, few))
      by true false is few =
          let none = source_lawful within source events trace each ok (leb-false source 1023 is) in
          omega (arith, none)
      by false low is few = refl

  content_is : content_of d ≡ counted (content_of old) source (length events)
  content_is =
      ap (λ (x : Detector PagedWords). content_of x) h.rest
      ∙ (λ i. record (content_of old) { events = events_are i; threads = (h.counts.rest i).threads; last = λ s. last_are s i })

  pub knows_over : Knows within (reverse events ++ trace) (content_of d)
  knows_over = subst (λ (c : Content). Knows within (reverse events ++ trace) c) (sym content_is) then_knows

module _ (old : Shard) (d : Detector PagedWords) (source count : ℕ) (ready : IsReady old) (h : PassesAll old.detector source count d) where
  abbrev now : Shard
  now = record old { detector = d }

  still_ready : IsReady now
  still_ready =
      record {
        part = ready.part;
        whole = subst IsWhole (sym h.rest) ready.whole;
        log = record {
          limit = ready.log.limit ∙ ap (λ (x : Detector PagedWords). x.sets.limit) (sym h.rest);
          within = let le = ready.log.within in let e = ap (λ (x : Detector PagedWords). length x.sets.sets) h.rest in omega (arith, le, e);
          rises = ready.log.rises;
          past = all_weaker (λ e. e ≤ old.detector.parts.events) (λ e. e ≤ d.parts.events) old.log.events (λ e le. let c = h.counts.never_less in omega (arith, le, c)) ready.log.past;
        };
      }

  own_stay : (limit : ℕ) (trace : List Named) → HasOwnSets limit trace old → HasOwnSets limit trace now
  own_stay limit trace own = subst (λ (x : Detector PagedWords). HasOwnSets limit trace old → HasOwnSets limit trace (record old { detector = x })) (sym h.rest) (λ (o : HasOwnSets limit trace old). record { sets = o.sets; logged = o.logged; log = o.log }) own

  pub passes_over : PassesOver old source count now
  passes_over =
      let go = reports_stay old.detector d (ap (λ (x : Detector PagedWords). reports_of x) h.rest) h.counts.never_less in
      record {
        rest = refl;
        detector = h;
        ready = still_ready;
        moves = record {
          events = go.events;
          late = go.late;
          reports = go.reports;
          later = go.later;
          made = λ k le. ap (λ (x : Detector PagedWords). made_by k x.sets.sets old.log.events) h.rest;
          grows = record {
            events = h.counts.never_less;
            more_sets = [];
            sets = ap (λ (x : Detector PagedWords). x.sets.sets) h.rest ∙ sym (append-nil old.detector.sets.sets);
            more_events = [];
            log = sym (append-nil old.log.events);
            later = tt;
          };
        };
        follows = λ trace events are k.
            knows_over (own_words old) source events trace old.detector d are.each are.accepted k (subst (λ (n : ℕ). PassesAll old.detector source n d) (sym are.many) h);
        sets = λ trace events are k limit own.
            own_stay limit (reverse events ++ trace)
            (sets_all old limit source events trace (subst (λ (n : ℕ). AllByRecursion (λ e. e ≤ n) old.log.events) (sym k.content.events) ready.log.past) are.each are.accepted own);
      }
