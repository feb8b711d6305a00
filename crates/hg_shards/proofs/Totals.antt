-- How many reports the shards of all parts count together.
use Rattle.std.proofs.Common.{◌≡◌, ℕ, suc, ◌+◌, ◌*◌, ◌/◌, ◌-◌, ◌^◌, ◌<◌, ◌≤◌, Bool, true, false, cond, ◌||◌, nat_lt, List, [], ◌∷◌, length, map, filter, refl, sym, ap, ◌∙◌, arith, length-append, ltb-false, zero, take, slice_get, Option, Some, None, subst}
use Rattle.std.proofs.lemmas.Bool.{false≢true, le-ltb, lt-ltb}
use Rattle.std.proofs.lemmas.List.{length-map}
use Rattle.std.proofs.lemmas.List.Sums.{sum_by-cons}
use Rattle.std.proofs.lemmas.List.FromFn.{length-range_with_len}
use Rattle.std.proofs.lemmas.Nat.{mod_below}
use Rattle.std.specs.Prelude.{◌==◌, fold}
use Rattle.std.specs.List.{range_with_len, sum_by}
use Rattle.std.specs.Option.{is_some}
use Rattle.hg_model.specs.declared.event.Event.{Event}
use Rattle.hg_model.specs.declared.event.Event.TheVariants.{Alloc, Fork, Free, Join, Lock, RdLock, Read, Recv, Send, Unlock, Write}
use Rattle.hg_model.specs.declared.event.Named.{Named}
use Rattle.hg_model.specs.declared.report.Report.{Report}
use Rattle.hg_model.specs.Contents.{Content, events_of, summary}
use Rattle.hg_model.specs.Reporting.{all_reports, is_reported, reports_at_last}
use Rattle.hg_model.specs.Verdicts.{IsAccepted, bad_length, standing_of}
use Rattle.hg_model.proofs.Accepted.{no_cause}
use Rattle.hg_sets.specs.Interning.{Table}
use Rattle.hg_detect.specs.Shown.{reports_of}
use Rattle.hg_shards.specs.declared.judge.Judge.{Judge}
use Rattle.hg_shards.specs.declared.merge.Place.{Place}
use Rattle.hg_shards.specs.declared.shard.Shard.{Shard}
use Rattle.hg_shards.specs.Alike.{touch}
use Rattle.hg_shards.specs.Asking.{accessed}
use Rattle.hg_shards.specs.Judging.{AreAllParts, ArePartsFrom, HasReports, IsAt, IsPart, KnowsTrace, TellsRaces}
use Rattle.hg_shards.specs.Merging.{head_of}
use Rattle.hg_shards.specs.Parts.{by_page}
use Rattle.hg_shards.specs.Reading.{place_upto, total_of}
use Rattle.hg_shards.specs.Sharding.{GoesOn, page_part, reports_of_group, words_of}
use Rattle.hg_shards.proofs.Judging.{few_events}
use Rattle.hg_shards.proofs.Parts.{shares_make_the_whole_lem}
use Rattle.hg_shards.proofs.Reports.{report_by, reports_by}
use Rattle.hg_shards.proofs.Reading.{head_is}
use Rattle.hg_shards.proofs.Rising.{reports_rise_lem}

-- ---- an accepted trace has few reports

second_false : (x y : Bool) → (x || y) ≡ false → y ≡ false
second_false true y h = absurd (false≢true (sym h))
second_false false y h = h

few_words : (at len : ℕ) → ((len == 0) || nat_lt 64 len) ≡ false → length (range_with_len (at / 4) ((at + len + 3) / 4 - at / 4)) ≤ 17
few_words at len fair =
    let short = ltb-false 64 len (second_false (len == 0) (nat_lt 64 len) fair) in
    let many = length-range_with_len (at / 4) ((at + len + 3) / 4 - at / 4) in
    omega (arith, short, many)

few_accessed : (e : Event) → bad_length e ≡ false → length (accessed e) ≤ 17
few_accessed (Fork p c) fair = omega arith
few_accessed (Join p c) fair = omega arith
few_accessed (Lock t l) fair = omega arith
few_accessed (RdLock t l) fair = omega arith
few_accessed (Unlock t l) fair = omega arith
few_accessed (Read a) fair = few_words a.at a.len fair
few_accessed (Write a) fair = few_words a.at a.len fair
few_accessed (Alloc b) fair = omega arith
few_accessed (Free b) fair = omega arith
few_accessed (Send t k) fair = omega arith
few_accessed (Recv t k) fair = omega arith

filter_short : (p : ℕ → Bool) (xs : List ℕ) → length (filter p xs) ≤ length xs
filter_short p [] = omega arith
filter_short p (x ∷ xs) =
    elim (p x) as (λ b. length (cond b (x ∷ filter p xs) (filter p xs)) ≤ suc (length xs)) [
      | true ↦ (let le = filter_short p xs in omega (arith, le))
      | false ↦ (let le = filter_short p xs in omega (arith, le))
    ]

few_at_last : (e : Event) (past : List Event) → bad_length e ≡ false → length (reports_at_last (e ∷ past)) ≤ 17
few_at_last e past fair =
    let words = filter (is_reported (e ∷ past)) (accessed e) in
    let is = ap (λ (rs : List Report). length rs) (reports_by e past) in
    let mapped = length-map words (λ w. report_by (e ∷ past) (touch w e) w) in
    let short = filter_short (is_reported (e ∷ past)) (accessed e) in
    let few = few_accessed e fair in
    omega (arith, is, mapped, short, few)

few_reports : (trace : List Named) → IsAccepted trace → length (all_reports (events_of trace)) ≤ 17 * length trace
few_reports [] h = omega arith
few_reports (n ∷ past) h =
    let before = few_reports past h.0 in
    let both = length-append (all_reports (events_of past)) (reports_at_last (n.event ∷ events_of past)) in
    let few = few_at_last n.event (events_of past) (no_cause (standing_of (summary past)) n h.1).1.0 in
    omega (arith, before, both, few)

-- ---- the shards have them together

module _ (limit parts : ℕ) (trace : List Named) where
  abbrev own : ℕ → List Report
  own k = reports_of_group (words_of parts k) trace

  own_total : (k : ℕ) (s : Shard) → IsPart (KnowsTrace limit trace) parts k s → s.detector.total ≡ length (own k)
  own_total k s h = h.has.0.total ∙ (λ i. length (reports_of_group (words_of (h.count_is i) (h.part_is i)) trace))

  totals_from : (a k : ℕ) (shards : List Shard) → ArePartsFrom (KnowsTrace limit trace) parts k shards
      → fold (λ (b : ℕ) (s : Shard). b + s.detector.total) a shards ≡ fold (λ (b : ℕ) (x : List Report). b + length x) a (map own (range_with_len k (length shards)))
  totals_from a k [] h = refl
  totals_from a k (s ∷ shards) h =
      ap (λ (b : ℕ). fold (λ (b : ℕ) (s : Shard). b + s.detector.total) (a + b) shards) (own_total k s h.0)
      ∙ totals_from (a + length (own k)) (k + 1) shards h.1

  all_totals : (shards : List Shard) → 0 < parts → length shards ≡ parts → ArePartsFrom (KnowsTrace limit trace) parts 0 shards → total_of shards ≡ (summary trace).total
  all_totals shards some many h =
      totals_from 0 0 shards h
      ∙ ap (λ (n : ℕ). fold (λ (b : ℕ) (x : List Report). b + length x) 0 (map own (range_with_len 0 n))) many
      ∙ (shares_make_the_whole_lem parts (by_page (page_part parts)) (all_reports (events_of trace)) (λ w. mod_below _ parts some) (reports_rise_lem (events_of trace))).total

-- what a judge that did not stop counts is the total of its content
pub total_at : (j : Judge) (shards : List Shard) (result : ℕ) → shards ≡ j.shards.shards.items → (total_of shards < 2 ^ 64 → result ≡ total_of shards) → (c : Content) (table : Table) → IsAt c table j → result ≡ c.total
total_at j shards result are counts c table h =
    let all = j.shards.shards.items in
    let is = ap total_of are ∙ all_totals j.limit (length all) h.trace all h.parts.0 refl h.parts.1 in
    let events = few_events h.trace h.judged.accepted in
    let reports = few_reports h.trace h.judged.accepted in
    counts (omega (arith, is, events, reports)) ∙ is ∙ ap (λ (d : Content). d.total) (sym h.content)

-- ---- whether there are reports

no_head : (most : ℕ) (reports : List Report) → head_of (take (suc most) reports) ≡ None → length reports ≡ 0
no_head most [] h = refl
no_head most (r ∷ reports) h = absurd (cc h)

some_head : (most : ℕ) (reports : List Report) → is_some (head_of (take (suc most) reports)) ≡ true → 0 < length reports
some_head most [] h = absurd (false≢true h)
some_head most (r ∷ reports) h = omega arith

module _ (parts : ℕ) (some : 0 < parts) (trace : List Named) where
  abbrev share : ℕ → List Report
  share k = reports_of_group (words_of parts k) trace

  -- where the first report of a shard stands, if it is one of the trace
  abbrev first_place : Shard → Option Place
  first_place s = place_upto (length trace) (slice_get (reports_of s.detector) 0)

  place_is : (k : ℕ) (s : Shard) → IsPart (GoesOn trace) parts k s → first_place s ≡ head_of (take 65536 (share k))
  place_is k s h = head_is parts some trace [] (summary trace).reports refl k s h

  abbrev shares_from : ℕ → ℕ → ℕ
  shares_from k n = sum_by (λ (x : List Report). length x) (map share (range_with_len k n))

  none_has : (k : ℕ) (shards : List Shard) → ArePartsFrom (GoesOn trace) parts k shards → ((j : ℕ) (s : Shard) → slice_get shards j ≡ Some s → first_place s ≡ None) → shares_from k (length shards) ≡ 0
  none_has k [] h none = refl
  none_has k (s ∷ shards) h none =
      let one = no_head 65535 (share k) (sym (place_is k s h.0) ∙ none 0 s refl) in
      let rest = none_has (k + 1) shards h.1 (λ j x at. none (suc j) x at) in
      let both = sum_by-cons (λ (x : List Report). length x) (share k) (map share (range_with_len (k + 1) (length shards))) in
      omega (arith, one, rest, both)

  one_has : (k : ℕ) (shards : List Shard) (j : ℕ) (s : Shard) → ArePartsFrom (GoesOn trace) parts k shards → slice_get shards j ≡ Some s → is_some (first_place s) ≡ true → 0 < shares_from k (length shards)
  one_has k [] j s h at there = absurd (cc at)
  one_has k (x ∷ shards) zero s h at there =
      let here : x ≡ s = cc at in
      let one = some_head 65535 (share k) (ap is_some (sym (place_is k x h.0)) ∙ ap (λ (y : Shard). is_some (first_place y)) here ∙ there) in
      let both = sum_by-cons (λ (y : List Report). length y) (share k) (map share (range_with_len (k + 1) (length shards))) in
      omega (arith, one, both)
  one_has k (x ∷ shards) (suc j) s h at there =
      let rest = one_has (k + 1) shards j s h.1 at there in
      let both = sum_by-cons (λ (y : List Report). length y) (share k) (map share (range_with_len (k + 1) (length shards))) in
      omega (arith, rest, both)

  all_shares : shares_from 0 parts ≡ (summary trace).total
  all_shares = (shares_make_the_whole_lem parts (by_page (page_part parts)) (all_reports (events_of trace)) (λ w. mod_below _ parts some) (reports_rise_lem (events_of trace))).total

pub tells_none : (shards : List Shard) (last : ℕ) → ((j : ℕ) (s : Shard) → slice_get shards j ≡ Some s → place_upto last (slice_get (reports_of s.detector) 0) ≡ None) → TellsRaces shards last false
tells_none shards last none trace is all =
    let nothing = none_has (length shards) all.0 trace 0 shards all.1 (λ j s at. ap (λ (n : ℕ). place_upto n (slice_get (reports_of s.detector) 0)) (sym is) ∙ none j s at) in
    let sum = all_shares (length shards) all.0 trace in
    sym (le-ltb 0 (summary trace).total (omega (arith, nothing, sum)))

pub tells_some : (shards : List Shard) (last j : ℕ) (s : Shard) → slice_get shards j ≡ Some s → is_some (place_upto last (slice_get (reports_of s.detector) 0)) ≡ true → TellsRaces shards last true
tells_some shards last j s at there trace is all =
    let more = one_has (length shards) all.0 trace 0 shards j s all.1 at (ap (λ (n : ℕ). is_some (place_upto n (slice_get (reports_of s.detector) 0))) (sym is) ∙ there) in
    let sum = all_shares (length shards) all.0 trace in
    sym (lt-ltb 0 (summary trace).total (omega (arith, more, sum)))

pub races_at : (j : Judge) (shards : List Shard) (answer : Bool) → shards ≡ j.shards.shards.items → TellsRaces shards j.events answer → (c : Content) → HasReports c j → answer ≡ nat_lt 0 c.total
races_at j shards answer are tells c h =
    tells h.trace h.judged.count (subst (λ (all : List Shard). AreAllParts (GoesOn h.trace) all) (sym are) h.judged.parts) ∙ ap (λ (d : Content). nat_lt 0 d.total) (sym h.content)
