-- The reports of all parts, read in the order of the whole trace.
use Rattle.std.proofs.Common.{◌≡◌, ⊎_elim, ℕ, zero, suc, ◌+◌, ◌-◌, ◌/◌, ◌<◌, ◌≤◌, Bool, true, false, cond, List, [], ◌∷◌, ◌++◌, length, map, filter, take, drop, set, get_or, replicate, slice_get, Option, Some, None, refl, sym, ap, ◌∙◌, subst, arith, append_assoc, length-append, eqb-true}
use Rattle.std.proofs.lemmas.Bool.{false≢true, lt-leb, le-leb, cases_lt, ne_eqb}
use Rattle.std.proofs.lemmas.Nat.{mod_below}
use Rattle.std.proofs.lemmas.Option.{slice_get_past, slice_get_within}
use Rattle.std.proofs.lemmas.List.{length-map, take-append-drop}
use Rattle.std.proofs.lemmas.List.FromFn.{get_or-map-range_with_len, length-map-range_with_len}
use Rattle.std.proofs.lemmas.List.Folds.{flat_map-map}
use Rattle.std.proofs.lemmas.List.Elements.{filter-append}
use Rattle.std.specs.List.{AllByRecursion, flat_map, range_with_len}
use Rattle.std.specs.Option.{is_some}
use Rattle.std.specs.Prelude.{if◌then◌else◌}
use Rattle.hg_model.specs.declared.event.Named.{Named}
use Rattle.hg_model.specs.declared.report.Report.{Report}
use Rattle.hg_model.specs.Contents.{events_of, summary}
use Rattle.hg_model.specs.Reporting.{all_reports}
use Rattle.hg_cells.specs.declared.report.KeptReport.{KeptReport}
use Rattle.hg_detect.specs.Shown.{report_of, reports_of}
use Rattle.hg_shards.specs.declared.cursor.Cursor.{Cursor}
use Rattle.hg_shards.specs.declared.merge.Place.{Place}
use Rattle.hg_shards.specs.declared.shard.Shard.{Shard}
use Rattle.hg_shards.specs.Alike.{reports_within}
use Rattle.hg_shards.specs.Judging.{AreAllParts, ArePartsFrom, IsPart, ReadsFrom}
use Rattle.hg_shards.specs.Merging.{IsBefore, IsNextByHeads, Rises, head_of, merged, place_of, sorted, wins}
use Rattle.hg_shards.specs.Parts.{by_page}
use Rattle.hg_shards.specs.Reading.{IsNextPart, ReadsNext, count_of_part, heads_upto, place_upto}
use Rattle.hg_shards.specs.Sharding.{GoesOn, page_part, words_of}
use Rattle.hg_shards.proofs.Merging.{among, each_filter, front_is_first}
use Rattle.hg_shards.proofs.Order.{each_weaker}
use Rattle.hg_shards.proofs.Parts.{each_dropped, each_in_front, flat_same, number_among, numbers_rise, rises_front, shares_make_the_whole_lem, take_over}
use Rattle.hg_shards.proofs.Rising.{early, reports_rise_lem}
use Rattle.hg_shards.proofs.Taking.{IsBest, best_is_next, best_is_none, best_none, best_changes, best_stays, wins_never_itself}

-- ---- lists

each_rest : (P : Report → Type 0) (xs ys : List Report) → AllByRecursion P (xs ++ ys) → AllByRecursion P ys
each_rest P [] ys h = h
each_rest P (x ∷ xs) ys h = each_rest P xs ys h.1

front_across : (xs ys : List Report) → Rises (xs ++ ys) → AllByRecursion (λ x. AllByRecursion (IsBefore x) ys) xs
front_across [] ys h = tt
front_across (x ∷ xs) ys h = (each_rest (IsBefore x) xs ys h.0, front_across xs ys h.1)

front_rises : (xs ys : List Report) → Rises (xs ++ ys) → Rises xs
front_rises [] ys h = tt
front_rises (x ∷ xs) ys h = (each_front xs h.0, front_rises xs ys h.1)
  where
    each_front : (zs : List Report) → AllByRecursion (IsBefore x) (zs ++ ys) → AllByRecursion (IsBefore x) zs
    each_front [] k = tt
    each_front (z ∷ zs) k = (k.0, each_front zs k.1)

rises_dropped : (n : ℕ) (xs : List Report) → Rises xs → Rises (drop n xs)
rises_dropped zero xs h = h
rises_dropped (suc n) [] h = tt
rises_dropped (suc n) (x ∷ xs) h = rises_dropped n xs h.1

rises_filter : (p : Report → Bool) (xs : List Report) → Rises xs → Rises (filter p xs)
rises_filter p [] h = tt
rises_filter p (x ∷ xs) h =
    elim (p x) as (λ b. Rises (cond b (x ∷ filter p xs) (filter p xs))) [
      | true ↦ (each_filter (IsBefore x) p xs h.0, rises_filter p xs h.1)
      | false ↦ rises_filter p xs h.1
    ]

each_passes : (p : Report → Bool) (xs : List Report) → AllByRecursion (λ x. p x ≡ true) (filter p xs)
each_passes p [] = tt
each_passes p (x ∷ xs) =
    elim (p x) as (λ b. p x ≡ b → AllByRecursion (λ y. p y ≡ true) (cond b (x ∷ filter p xs) (filter p xs))) [
      | true ↦ λ is. (is, each_passes p xs)
      | false ↦ λ is. each_passes p xs
    ] refl

filter_short : (p : Report → Bool) (xs : List Report) → length (filter p xs) ≤ length xs
filter_short p [] = omega arith
filter_short p (x ∷ xs) =
    elim (p x) as (λ b. length (cond b (x ∷ filter p xs) (filter p xs)) ≤ suc (length xs)) [
      | true ↦ (let le = filter_short p xs in omega (arith, le))
      | false ↦ (let le = filter_short p xs in omega (arith, le))
    ]

take_short : (m : ℕ) (xs : List Report) → length (take m xs) ≤ m
take_short zero xs = omega arith
take_short (suc m) [] = omega arith
take_short (suc m) (x ∷ xs) = let le = take_short m xs in omega (arith, le)

drop_front : (xs ys : List Report) → drop (length xs) (xs ++ ys) ≡ ys
drop_front [] ys = refl
drop_front (x ∷ xs) ys = drop_front xs ys

same_rest : (xs ys zs : List Report) → xs ++ ys ≡ xs ++ zs → ys ≡ zs
same_rest [] ys zs h = h
same_rest (x ∷ xs) ys zs h = same_rest xs ys zs (cc h)

each_mapped : (P : List Report → Type 0) (f : ℕ → List Report) → ((k : ℕ) → P (f k)) → (ks : List ℕ) → AllByRecursion P (map f ks)
each_mapped P f h [] = tt
each_mapped P f h (k ∷ ks) = (h k, each_mapped P f h ks)

take_none : (m : ℕ) → ◌≡◌ {A = List Report} (take m []) []
take_none zero = refl
take_none (suc m) = refl

no_more : (rest : List Report) → length rest ≡ 0 → rest ≡ []
no_more [] h = refl
no_more (r ∷ rest) h = absurd (omega (arith, h))

same_head : (r s : Report) (xs ys : List Report) → ◌≡◌ {A = List Report} (r ∷ xs) (s ∷ ys) → r ≡ s
same_head r s xs ys h = cc h

not_none : (r : Report) (rest : List Report) → ◌≡◌ {A = List Report} [] (r ∷ rest) → ⊥
not_none r rest h = absurd (cc h)

-- ---- reports of later events

none_late : (last index : ℕ) (ys : List Report) → AllByRecursion (λ r. last < r.event) ys → place_upto last (slice_get ys index) ≡ None
none_late last index [] h = refl
none_late last zero (r ∷ ys) h = ap (λ b. if b then Some (place_of r) else None) (lt-leb r.event last h.0)
none_late last (suc index) (r ∷ ys) h = none_late last index ys h.1

none_dropped : (index : ℕ) → None ≡ head_of (drop index [])
none_dropped zero = refl
none_dropped (suc index) = refl

-- what is kept with reports of later events has the same next report up to the last event
cut : (last most index : ℕ) (xs ys : List Report) → AllByRecursion (λ r. r.event ≤ last) xs → AllByRecursion (λ r. last < r.event) ys
    → place_upto last (slice_get (take most (xs ++ ys)) index) ≡ head_of (drop index (take most xs))
cut last zero index xs ys low high = none_dropped index
cut last (suc most) index [] ys low high = none_late last index (take (suc most) ys) (each_in_front (λ r. last < r.event) (suc most) ys high) ∙ none_dropped index
cut last (suc most) zero (x ∷ xs) ys low high = ap (λ b. if b then Some (place_of x) else None) (le-leb x.event last low.0)
cut last (suc most) (suc index) (x ∷ xs) ys low high = cut last most index xs ys low.1 high

dropped_none : (index : ℕ) (r : Report) (rest : List Report) → drop index [] ≡ r ∷ rest → ⊥
dropped_none zero r rest h = not_none r rest h
dropped_none (suc index) r rest h = not_none r rest h

kept_there : (most index : ℕ) (xs ys : List Report) (r : Report) (rest : List Report) (d : Report) → drop index (take most xs) ≡ r ∷ rest → get_or (take most (xs ++ ys)) index d ≡ r
kept_there zero index xs ys r rest d h = absurd (dropped_none index r rest h)
kept_there (suc most) index [] ys r rest d h = absurd (dropped_none index r rest h)
kept_there (suc most) zero (x ∷ xs) ys r rest d h = same_head x r (take most xs) rest h
kept_there (suc most) (suc index) (x ∷ xs) ys r rest d h = kept_there most index xs ys r rest d h

length_events : (trace : List Named) → length (events_of trace) ≡ length trace
length_events trace = length-map trace (λ n. n.event)

-- ---- the numbers of the parts

map_above : (f h : ℕ → ℕ) (b n : ℕ) → ((j : ℕ) → b ≤ j → f j ≡ h j) → map f (range_with_len b n) ≡ map h (range_with_len b n)
map_above f h b zero same = refl
map_above f h b (suc n) same = λ i. same b (omega arith) i ∷ map_above f h (b + 1) n (λ j le. same j (omega (arith, le))) i

-- one number more of part a + k
set_number : (f h : ℕ → ℕ) (a n k y : ℕ) → k < n → y ≡ h (a + k) → ((j : ℕ) → (j ≡ a + k → ⊥) → f j ≡ h j) → set (map f (range_with_len a n)) k y ≡ map h (range_with_len a n)
set_number f h a zero k y lt is same = absurd (omega (arith, lt))
set_number f h a (suc n) zero y lt is same =
    λ i. (is ∙ ap h (let e : a + 0 ≡ a = omega arith in e)) i ∷ map_above f h (a + 1) n (λ j le. same j (λ e. absurd (omega (arith, le, e)))) i
set_number f h a (suc n) (suc k) y lt is same =
    λ i. same a (λ e. absurd (omega (arith, e))) i
    ∷ set_number f h (a + 1) n k y (omega (arith, lt)) (is ∙ ap h (let e : a + suc k ≡ (a + 1) + k = omega arith in e))
    (λ j not. same j (λ e. not (let f2 : j ≡ (a + 1) + k = omega (arith, e) in f2))) i

none_of : (parts a n : ℕ) → replicate n 0 ≡ map (count_of_part parts []) (range_with_len a n)
none_of parts a zero = refl
none_of parts a (suc n) = ap (λ (ns : List ℕ). 0 ∷ ns) (none_of parts (a + 1) n)

pub first_read : (parts : ℕ) (given : List ℕ) → given ≡ replicate parts 0 → given ≡ map (count_of_part parts []) (range_with_len 0 parts)
first_read parts given is = is ∙ none_of parts 0 parts

-- ---- what is next

module _ (parts : ℕ) (some : 0 < parts) (trace : List Named) (front rest : List Report) (are : (summary trace).reports ≡ front ++ rest) where
  abbrev whole : List Report
  whole = all_reports (events_of trace)

  abbrev passes : ℕ → Report → Bool
  passes k r = words_of parts k (r.word / 4)

  abbrev part : Report → ℕ
  part r = by_page (page_part parts) (r.word / 4)

  abbrev numbers : List ℕ
  numbers = range_with_len 0 parts

  abbrev own : ℕ → List Report
  own k = reports_within (words_of parts k) whole

  abbrev more : List Report
  more = rest ++ drop 65536 whole

  abbrev behind : ℕ → List Report
  behind k = drop (count_of_part parts front k) (take 65536 (own k))

  abbrev lists : List (List Report)
  lists = map behind numbers

  kept_is : take 65536 whole ≡ front ++ rest
  kept_is = are

  whole_is : whole ≡ front ++ more
  whole_is = sym (take-append-drop 65536 whole) ∙ ap (λ (rs : List Report). rs ++ drop 65536 whole) kept_is ∙ append_assoc front rest (drop 65536 whole)

  all_few : length front + length rest ≤ 65536
  all_few =
      let le = take_short 65536 whole in
      let e = ap (λ (rs : List Report). length rs) kept_is in
      let both = length-append front rest in
      omega (arith, le, e, both)

  count_few : (k : ℕ) → count_of_part parts front k ≤ 65536
  count_few k = let few = all_few in let le = filter_short (passes k) front in omega (arith, few, le)

  own_split : (k : ℕ) → own k ≡ reports_within (words_of parts k) front ++ reports_within (words_of parts k) more
  own_split k = ap (reports_within (words_of parts k)) whole_is ∙ filter-append (passes k) front more

  kept_split : (k : ℕ) → take 65536 (own k) ≡ reports_within (words_of parts k) front ++ take (65536 - count_of_part parts front k) (reports_within (words_of parts k) more)
  kept_split k = ap (take 65536) (own_split k) ∙ take_over (reports_within (words_of parts k) front) (reports_within (words_of parts k) more) 65536 (count_few k)

  behind_is : (k : ℕ) → behind k ≡ take (65536 - count_of_part parts front k) (reports_within (words_of parts k) more)
  behind_is k = ap (drop (count_of_part parts front k)) (kept_split k) ∙ drop_front (reports_within (words_of parts k) front) (take (65536 - count_of_part parts front k) (reports_within (words_of parts k) more))

  share_is : (k : ℕ) → take 65536 (own k) ≡ reports_within (words_of parts k) front ++ behind k
  share_is k = kept_split k ∙ ap (λ (rs : List Report). reports_within (words_of parts k) front ++ rs) (sym (behind_is k))

  whole_rises : Rises whole
  whole_rises = reports_rise_lem (events_of trace)

  both_rise : Rises (front ++ more)
  both_rise = subst Rises whole_is whole_rises

  across : AllByRecursion (λ r. (k : ℕ) → AllByRecursion (IsBefore r) (behind k)) front
  across =
      each_weaker (λ (r : Report). AllByRecursion (IsBefore r) more) (λ (r : Report). (k : ℕ) → AllByRecursion (IsBefore r) (behind k))
      (λ r h k. subst (AllByRecursion (IsBefore r)) (sym (behind_is k)) (each_in_front (IsBefore r) (65536 - count_of_part parts front k) (reports_within (words_of parts k) more) (each_filter (IsBefore r) (passes k) more h)))
      front (front_across front more both_rise)

  has_part : (r : Report) → among (part r) numbers ≡ true
  has_part r = number_among 0 parts (part r) (omega arith) (let lt : part r < parts = mod_below _ parts some in omega (arith, lt))

  first_front : sorted (flat_map (λ k. reports_within (words_of parts k) front ++ behind k) numbers) ≡ front ++ sorted (flat_map behind numbers)
  first_front = front_is_first part behind 0 numbers (numbers_rise 0 parts) has_part front (front_rises front more both_rise) across

  merged_is : merged lists ≡ sorted (flat_map behind numbers)
  merged_is = ap sorted (flat_map-map (λ (rs : List Report). rs) behind numbers)

  kept_law : take 65536 (sorted (flat_map (λ k. reports_within (words_of parts k) front ++ behind k) numbers)) ≡ take 65536 whole
  kept_law =
      ap (λ (rs : List Report). take 65536 (sorted rs))
      (sym (flat_map-map (λ (rs : List Report). rs) (take 65536) (map own numbers) ∙ flat_map-map (take 65536) own numbers
      ∙ flat_same (λ k. take 65536 (own k)) (λ k. reports_within (words_of parts k) front ++ behind k) share_is numbers))
      ∙ (shares_make_the_whole_lem parts (by_page (page_part parts)) whole (λ w. mod_below _ parts some) whole_rises).kept 65536

  rest_is : take (65536 - length front) (merged lists) ≡ rest
  rest_is =
      same_rest front (take (65536 - length front) (merged lists)) rest
      (sym (take_over front (merged lists) 65536 (let few = all_few in omega (arith, few)))
      ∙ ap (λ (rs : List Report). take 65536 (front ++ rs)) merged_is
      ∙ ap (take 65536) (sym first_front) ∙ kept_law ∙ kept_is)

  lists_rise : AllByRecursion Rises lists
  lists_rise = each_mapped Rises behind (λ k. rises_dropped (count_of_part parts front k) (take 65536 (own k)) (rises_front 65536 (own k) (rises_filter (passes k) whole whole_rises))) numbers

  -- what a shard keeps: the reports of its part, and those of later events
  record Keeps (k : ℕ) (s : Shard) : Type 0 where
    late : List Report
    kept : reports_of s.detector ≡ take 65536 (own k ++ late)
    high : AllByRecursion (λ r. length trace < r.event) late

  keeps : (k : ℕ) (s : Shard) → IsPart (GoesOn trace) parts k s → Keeps k s
  keeps k s h =
      record {
        late = h.has.late;
        kept = h.has.reports ∙ (λ i. take 65536 (reports_within (words_of (h.count_is i) (h.part_is i)) whole ++ h.has.late));
        high = h.has.later;
      }

  low : (k : ℕ) → AllByRecursion (λ r. r.event ≤ length trace) (own k)
  low k =
      each_filter (λ r. r.event ≤ length trace) (passes k) whole
      (each_weaker (λ (r : Report). r.event ≤ length (events_of trace)) (λ (r : Report). r.event ≤ length trace) (λ r le. let e = length_events trace in omega (arith, le, e)) whole (early (events_of trace)))

  pub head_is : (k : ℕ) (s : Shard) → IsPart (GoesOn trace) parts k s → place_upto (length trace) (slice_get (reports_of s.detector) (count_of_part parts front k)) ≡ head_of (behind k)
  head_is k s h =
      let kept = keeps k s h in
      ap (λ (rs : List Report). place_upto (length trace) (slice_get rs (count_of_part parts front k))) kept.kept
      ∙ cut (length trace) 65536 (count_of_part parts front k) (own k) kept.late (low k) kept.high

  heads_are : (k : ℕ) (shards : List Shard) → ArePartsFrom (GoesOn trace) parts k shards
      → map head_of (map behind (range_with_len k (length shards))) ≡ heads_upto (length trace) shards (map (count_of_part parts front) (range_with_len k (length shards)))
  heads_are k [] h = refl
  heads_are k (s ∷ shards) h = λ i. sym (head_is k s h.0) i ∷ heads_are (k + 1) shards h.1 i

  part_at : (k : ℕ) (shards : List Shard) (j : ℕ) (d : Shard) → ArePartsFrom (GoesOn trace) parts k shards → j < length shards → IsPart (GoesOn trace) parts (k + j) (get_or shards j d)
  part_at k [] j d h lt = absurd (omega (arith, lt))
  part_at k (s ∷ shards) zero d h lt = subst (λ (n : ℕ). IsPart (GoesOn trace) parts n s) (let e : k ≡ k + 0 = omega arith in e) h.0
  part_at k (s ∷ shards) (suc j) d h lt =
      subst (λ (n : ℕ). IsPart (GoesOn trace) parts n (get_or shards j d)) (let e : (k + 1) + j ≡ k + suc j = omega arith in e) (part_at (k + 1) shards j d h.1 (omega (arith, lt)))

  list_at : (k : ℕ) → k < parts → get_or lists k [] ≡ behind k
  list_at k lt = get_or-map-range_with_len behind 0 parts k k [] lt (omega arith)

  -- the next report is of the part
  is_of_part : (k : ℕ) (r : Report) (later : List Report) → behind k ≡ r ∷ later → passes k r ≡ true
  is_of_part k r later is =
      (subst (AllByRecursion (λ x. passes k x ≡ true)) is
      (each_dropped (λ x. passes k x ≡ true) (count_of_part parts front k) (take 65536 (own k)) (each_in_front (λ x. passes k x ≡ true) 65536 (own k) (each_passes (passes k) whole)))).0

  count_on : (j : ℕ) (r : Report) (b : Bool) → passes j r ≡ b → count_of_part parts (front ++ r ∷ []) j ≡ count_of_part parts front j + cond b 1 0
  count_on j r b is =
      ap (λ (rs : List Report). length rs) (filter-append (passes j) front (r ∷ []))
      ∙ length-append (reports_within (words_of parts j) front) (filter (passes j) (r ∷ []))
      ∙ ap (λ n. count_of_part parts front j + n) (by b is)
    where
      by : (t : Bool) → passes j r ≡ t → length (filter (passes j) (r ∷ [])) ≡ cond t 1 0
      by true one = ap (λ t. length (cond t (r ∷ []) [])) one
      by false none = ap (λ t. length (cond t (r ∷ []) [])) none

  read_on : (k : ℕ) (r : Report) → k < parts → passes k r ≡ true → (y : ℕ) → y ≡ count_of_part parts front k + 1
      → set (map (count_of_part parts front) numbers) k y ≡ map (count_of_part parts (front ++ r ∷ [])) numbers
  read_on k r lt is y added =
      set_number (count_of_part parts front) (count_of_part parts (front ++ r ∷ [])) 0 parts k y lt
      (added ∙ sym (count_on k r true is) ∙ ap (count_of_part parts (front ++ r ∷ [])) (let e : k ≡ 0 + k = omega arith in e))
      (λ j not. let same = count_on j r false (ne_eqb (part r) j (λ e. let here = eqb-true (part r) k is in not (let f : j ≡ 0 + k = omega (arith, e, here) in f))) in omega (arith, same))

  module _ (shards : List Shard) (as_many : length shards ≡ parts) (all : ArePartsFrom (GoesOn trace) parts 0 shards) (given : List ℕ) (read : given ≡ map (count_of_part parts front) numbers) where
    heads_of_lists : map head_of lists ≡ heads_upto (length trace) shards given
    heads_of_lists =
        subst (λ (n : ℕ). map head_of (map behind (range_with_len 0 n)) ≡ heads_upto (length trace) shards (map (count_of_part parts front) (range_with_len 0 n))) as_many (heads_are 0 shards all)
        ∙ ap (heads_upto (length trace) shards) (sym read)

    -- no part has one more
    none_next : IsNextByHeads (heads_upto (length trace) shards given) None → rest ≡ []
    none_next next = sym rest_is ∙ ap (take (65536 - length front)) (next lists lists_rise heads_of_lists) ∙ take_none (65536 - length front)

    -- What is read of the part that is next.
    record Reads (k : ℕ) : Type 0 where
      report : Report
      later : List Report
      rest_is_it : rest ≡ report ∷ later
      is_its : passes k report ≡ true
      is_kept : (s d : Shard) (r : Report) → s ≡ get_or shards k d → get_or (reports_of s.detector) (count_of_part parts front k) r ≡ report

    some_next : (k : ℕ) → k < length shards → length front < 65536 → IsNextByHeads (heads_upto (length trace) shards given) (Some k) → Reads k
    some_next k lt few next =
        let takes = next lists lists_rise heads_of_lists in
        let own_is : behind k ≡ takes.report ∷ takes.rest = sym (list_at k (omega (arith, lt, as_many))) ∙ takes.is_there in
        record {
          report = takes.report;
          later = take (65535 - length front) (merged (set lists k takes.rest));
          rest_is_it =
              sym rest_is ∙ ap (take (65536 - length front)) takes.comes_first
              ∙ ap (λ n. take n (takes.report ∷ merged (set lists k takes.rest))) (let e : 65536 - length front ≡ suc (65535 - length front) = omega (arith, few) in e);
          is_its = is_of_part k takes.report takes.rest own_is;
          is_kept = λ s d r is.
              let kept = keeps k (get_or shards k d) (subst (λ (n : ℕ). IsPart (GoesOn trace) parts n (get_or shards k d)) (let e : 0 + k ≡ k = omega arith in e) (part_at 0 shards k d all lt)) in
              ap (λ (x : Shard). get_or (reports_of x.detector) (count_of_part parts front k) r) is
              ∙ ap (λ (rs : List Report). get_or rs (count_of_part parts front k) r) kept.kept
              ∙ kept_there 65536 (count_of_part parts front k) (own k) kept.late takes.report takes.rest r own_is;
        }

parts_count : (P : Shard → Type 0) (shards : List Shard) → AreAllParts P shards → ArePartsFrom P (length shards) 0 shards
parts_count P shards h = h.1

-- ---- reading

module _ (shards : List Shard) (last : ℕ) (old : Cursor) where
  -- the cursor is of other parts, or has read as many as are kept
  pub reads_none : (length old.given.items ≡ length shards → 65536 ≤ old.count) → ReadsFrom shards last old None old
  reads_none many trace front rest is all read are =
      let e = ap (λ (ns : List ℕ). length ns) read.given ∙ length-map-range_with_len (count_of_part (length shards) front) 0 (length shards) in
      let full = many (omega (arith, e)) in
      let few = all_few (length shards) all.0 trace front rest are in
      let count = read.count in
      by rest (no_more rest (omega (arith, full, few, count)))
    where
      by : (later : List Report) → later ≡ [] → ReadsNext (length shards) front later None old
      by [] none = (refl, read)
      by (r ∷ later) none = absurd (not_none r later (sym none))

  pub reads_last : IsNextPart last shards old.given.items None → ReadsFrom shards last old None old
  reads_last next trace front rest is all read are =
      by rest (none_next (length shards) all.0 trace front rest are shards refl all.1 old.given.items read.given (subst (λ (n : ℕ). IsNextByHeads (heads_upto n shards old.given.items) None) is next))
    where
      by : (later : List Report) → later ≡ [] → ReadsNext (length shards) front later None old
      by [] none = (refl, read)
      by (r ∷ later) none = absurd (not_none r later (sym none))

  pub reads_one : (k : ℕ) (new : Cursor) (found : Report) (s d : Shard) (any : Report) → old.count < 65536 → IsNextPart last shards old.given.items (Some k) → s ≡ get_or shards k d
      → found ≡ get_or (reports_of s.detector) (get_or old.given.items k 0) any → new.given.items ≡ set old.given.items k (get_or old.given.items k 0 + 1) → new.count ≡ old.count + 1 → ReadsFrom shards last old (Some found) new
  reads_one k new found s d any few next shard_is found_is given_is count_is trace front rest is all read are =
      let n = length shards in
      let count = read.count in
      let reads = some_next n all.0 trace front rest are shards refl all.1 old.given.items read.given k next.0 (omega (arith, few, count)) (subst (λ (m : ℕ). IsNextByHeads (heads_upto m shards old.given.items) (Some k)) is next.2) in
      let index : get_or old.given.items k 0 ≡ count_of_part n front k =
      ap (λ (ns : List ℕ). get_or ns k 0) read.given ∙ get_or-map-range_with_len (count_of_part n front) 0 n k k 0 next.0 (omega arith) in
      let found_here : found ≡ reads.report = found_is ∙ ap (λ (m : ℕ). get_or (reports_of s.detector) m any) index ∙ reads.is_kept s d any shard_is in
      subst (λ (rs : List Report). ReadsNext n front rs (Some found) new) (sym reads.rest_is_it) (
        ap (λ (r : Report). Some r) found_here,
        record {
          count = let both = length-append front (reads.report ∷ []) in omega (arith, both, count_is, count);
          given = given_is ∙ ap (λ (ns : List ℕ). set ns k (get_or old.given.items k 0 + 1)) read.given
              ∙ read_on n all.0 trace front rest are k reads.report next.0 reads.is_its (get_or old.given.items k 0 + 1) (ap (λ m. m + 1) index);
        },
      )

-- ---- the part that is next

kept_place : (last : ℕ) (sets : List (List ℕ)) (kept : List KeptReport) (n : ℕ) (d : KeptReport) → n < length kept → slice_get (map (report_of sets) kept) n ≡ Some (report_of sets (get_or kept n d))
kept_place last sets [] n d lt = absurd (omega (arith, lt))
kept_place last sets (r ∷ kept) zero d lt = refl
kept_place last sets (r ∷ kept) (suc n) d lt = kept_place last sets kept n d (omega (arith, lt))

module _ (last : ℕ) (s : Shard) (n : ℕ) where
  pub no_place : length s.detector.kept ≤ n → None ≡ place_upto last (slice_get (reports_of s.detector) n)
  no_place le =
      let same = length-map s.detector.kept (report_of s.detector.sets.sets) in
      ap (place_upto last) (sym (slice_get_past (reports_of s.detector) n (omega (arith, le, same))))

  pub late_place : (r : KeptReport) → n < length s.detector.kept → r ≡ get_or s.detector.kept n r → last < r.event → None ≡ place_upto last (slice_get (reports_of s.detector) n)
  late_place r lt is late =
      sym (ap (place_upto last) (kept_place last s.detector.sets.sets s.detector.kept n r lt ∙ ap (λ (x : KeptReport). Some (report_of s.detector.sets.sets x)) (sym is))
      ∙ ap (λ b. if b then Some (place_of (report_of s.detector.sets.sets r)) else None) (lt-leb r.event last late))

  pub its_place : (r : KeptReport) → n < length s.detector.kept → r ≡ get_or s.detector.kept n r → r.event ≤ last → Some (place_of (report_of s.detector.sets.sets r)) ≡ place_upto last (slice_get (reports_of s.detector) n)
  its_place r lt is soon =
      sym (ap (place_upto last) (kept_place last s.detector.sets.sets s.detector.kept n r lt ∙ ap (λ (x : KeptReport). Some (report_of s.detector.sets.sets x)) (sym is))
      ∙ ap (λ b. if b then Some (place_of (report_of s.detector.sets.sets r)) else None) (le-leb r.event last soon))

pub heads_length : (last : ℕ) (shards : List Shard) (given : List ℕ) → length given ≡ length shards → length (heads_upto last shards given) ≡ length shards
heads_length last [] given same = refl
heads_length last (s ∷ shards) [] same = absurd (omega (arith, same))
heads_length last (s ∷ shards) (n ∷ given) same = let e = heads_length last shards given (omega (arith, same)) in omega (arith, e)

pub head_at : (last : ℕ) (shards : List Shard) (given : List ℕ) (k : ℕ) (d : Shard) (e : ℕ) → length given ≡ length shards → k < length shards
    → get_or (heads_upto last shards given) k None ≡ place_upto last (slice_get (reports_of (get_or shards k d).detector) (get_or given k e))
head_at last [] given k d e same lt = absurd (omega (arith, lt))
head_at last (s ∷ shards) [] k d e same lt = absurd (omega (arith, same))
head_at last (s ∷ shards) (n ∷ given) zero d e same lt = refl
head_at last (s ∷ shards) (n ∷ given) (suc k) d e same lt = head_at last shards given k d e (omega (arith, same)) (omega (arith, lt))

-- The best among the first heads, with its place.
pub record IsBestAt (heads : List (Option Place)) (best count : ℕ) (place : Option Place) : Type 0 where
  pub best_is : IsBest heads best count
  pub place_is : best < count → place ≡ get_or heads best None
  pub none_yet : count ≤ best → place ≡ None

pub best_first : (heads : List (Option Place)) → IsBestAt heads 0 0 None
best_first heads = record { best_is = best_none heads; place_is = λ lt. absurd (omega (arith, lt)); none_yet = λ le. refl }

no_win : (x : Option Place) → wins x None ≡ false → x ≡ None
no_win None h = refl
no_win (Some p) h = absurd (false≢true (sym h))

module _ (heads : List (Option Place)) (best count : ℕ) (place head : Option Place) (h : IsBestAt heads best count place) (is : get_or heads count None ≡ head) where
  -- the best was the one at this place, of which nothing was known
  same_best : count ≤ best → IsBest heads best (count + 1)
  same_best le =
      let within = h.best_is.within in
      best_stays heads best count h.best_is
      (ap (λ (n : ℕ). wins (get_or heads n None) (get_or heads best None)) (let e : count ≡ best = omega (arith, le, within) in e) ∙ wins_never_itself (get_or heads best None))

  pub best_won : wins head place ≡ true → IsBestAt heads count (count + 1) head
  best_won won =
      record {
        best_is =
            ⊎_elim
            (λ (lt : best < count). best_changes heads best count h.best_is ((λ i. wins (is i) (sym (h.place_is lt) i)) ∙ won))
            (λ (le : count ≤ best). let within = h.best_is.within in subst (λ (n : ℕ). IsBest heads n (count + 1)) (let e : best ≡ count = omega (arith, le, within) in e) (same_best le))
            (cases_lt best count);
        place_is = λ lt. sym is;
        none_yet = λ le. absurd (omega (arith, le));
      }

  pub best_lost : wins head place ≡ false → IsBestAt heads best (count + 1) place
  best_lost lost =
      ⊎_elim
      (λ (lt : best < count).
      record {
        best_is = best_stays heads best count h.best_is ((λ i. wins (is i) (sym (h.place_is lt) i)) ∙ lost);
        place_is = λ more. h.place_is lt;
        none_yet = λ le. absurd (omega (arith, le, lt));
      })
      (λ (le : count ≤ best).
      let within = h.best_is.within in
      let none = h.none_yet le in
      record {
        best_is = same_best le;
        place_is = λ more. none ∙ sym (no_win head (ap (λ (x : Option Place). wins head x) (sym none) ∙ lost)) ∙ sym is ∙ ap (λ (n : ℕ). get_or heads n None) (let e : count ≡ best = omega (arith, le, within) in e);
        none_yet = λ late. absurd (omega (arith, late, within));
      })
      (cases_lt best count)

place_there : (last : ℕ) (r : Option Report) (p : Place) → place_upto last r ≡ Some p → (x : Report) × (r ≡ Some x)
place_there last None p h = absurd (cc h)
place_there last (Some x) p h = (x, refl)

some_place : (x : Option Place) → is_some x ≡ true → (p : Place) × (x ≡ Some p)
some_place None h = absurd (false≢true h)
some_place (Some p) h = (p, refl)

module _ (last : ℕ) (shards : List Shard) (given : List ℕ) (best : ℕ) (place : Option Place) (same : length given ≡ length shards)
    (h : IsBestAt (heads_upto last shards given) best (length shards) place) where
  pub next_some : is_some place ≡ true → IsNextPart last shards given (Some best)
  next_some some =
      ⊎_elim
      (λ (lt : best < length shards).
      let found = some_place place some in
      let at = h.place_is lt in
      let all = heads_length last shards given same in (
        lt,
        (λ d.
            let head = head_at last shards given best d 0 same lt in
            let there = place_there last (slice_get (reports_of (get_or shards best d).detector) (get_or given best 0)) found.0 (sym head ∙ sym at ∙ found.1) in
            let within = slice_get_within (reports_of (get_or shards best d).detector) (get_or given best 0) there.0 there.1 in
            let len = length-map (get_or shards best d).detector.kept (report_of (get_or shards best d).detector.sets.sets) in
            omega (arith, within, len)),
        best_is_next (heads_upto last shards given) best (length shards) h.best_is all (omega (arith, lt, all)) (ap is_some (sym at) ∙ some),
      ))
      (λ (le : length shards ≤ best). absurd (false≢true (sym (ap is_some (h.none_yet le)) ∙ some)))
      (cases_lt best (length shards))

  pub next_none : is_some place ≡ false → IsNextPart last shards given None
  next_none none =
      let all = heads_length last shards given same in
      best_is_none (heads_upto last shards given) best (length shards) h.best_is all (λ lt. ap is_some (sym (h.place_is (omega (arith, lt, all)))) ∙ none)
