-- The sets of several parts, taken by the events that made them.
use Rattle.std.proofs.Common.{◌≡◌, ◌⊎◌, ℕ, zero, suc, ◌+◌, ◌-◌, ◌<◌, ◌≤◌, Bool, true, false, cond, ◌||◌, nat_le, nat_lt, List, [], ◌∷◌, ◌++◌, length, take, drop, set, get_or, replicate, slice_get, All, Option, Some, None, refl, sym, ap, ◌∙◌, subst, ⊎_elim, arith}
use Rattle.std.proofs.lemmas.Bool.{false≢true, le-leb, lt-leb, leb-true, leb-false, ltb-true, ltb-false, lt-ltb, le-ltb, or_left, or_right, or_cases, cases_lt}
use Rattle.std.proofs.lemmas.Option.{slice_get_within}
use Rattle.std.proofs.lemmas.List.{length-replicate, length-set}
use Rattle.std.proofs.Math.Seq.{take-suc}
use Rattle.std.specs.Cmp.Lexicographic.{pointwise}
use Rattle.std.proofs.Common.{nat_eq}
use Rattle.std.specs.List.{AllByRecursion, flat_map}
use Rattle.std.specs.Set.{unique_keys}
use Rattle.hg_sets.specs.Interning.{Table, set_at}
use Rattle.hg_shards.specs.declared.full.Next.{Next}
use Rattle.hg_shards.specs.declared.shard.Shard.{Shard}
use Rattle.hg_shards.specs.Asking.{HasSets, has_set, size_with}
use Rattle.hg_shards.specs.Filling.{IsFirstHead, IsNextMade, NoneBefore, PutsSet, earlier_of, heads_of, is_found_by}
use Rattle.hg_shards.specs.Logging.{NeverFalls, made_by}
use Rattle.hg_shards.specs.Sharding.{IsLogOf, made_in}
use Rattle.hg_shards.specs.Together.{AreCutAt, IsTaking, taken_sets}
use Rattle.hg_shards.proofs.Counting.{at_least, has_both, unique_distinct, unique_members}
use Rattle.hg_shards.proofs.Logging.{all_weaker}
use Rattle.hg_shards.proofs.Tables.{size_is}

-- ---- the heads of the logs

pub each : {X : Type 0} (P : X → Type 0) (xs : List X) → All P xs → AllByRecursion P xs
each P [] h = tt
each P (x ∷ xs) h = (h 0 x (omega arith), each P xs (λ k d lt. h (suc k) d (omega arith)))

pub heads_length : (shards : List Shard) (taken : List ℕ) → length taken ≡ length shards → length (heads_of shards taken) ≡ length shards
heads_length [] taken same = refl
heads_length (s ∷ shards) [] same = absurd (omega arith)
heads_length (s ∷ shards) (n ∷ taken) same = let e = heads_length shards taken (omega arith) in omega (arith, e)

pub head_at : (shards : List Shard) (taken : List ℕ) (k : ℕ) (d : Shard) (e : ℕ) → length taken ≡ length shards → k < length shards → get_or (heads_of shards taken) k None ≡ slice_get (get_or shards k d).log.events (get_or taken k e)
head_at [] taken k d e same lt = absurd (omega arith)
head_at (s ∷ shards) [] k d e same lt = absurd (omega arith)
head_at (s ∷ shards) (n ∷ taken) zero d e same lt = refl
head_at (s ∷ shards) (n ∷ taken) (suc k) d e same lt = head_at shards taken k d e (omega arith) (omega arith)

-- the best among the first heads
pub record IsBestOf (heads : List (Option ℕ)) (taken : List ℕ) (count : ℕ) (next : Next) : Type 0 where
  pub part : next.part < count
  pub place : next.set ≡ get_or taken next.part 0
  pub head : get_or heads next.part None ≡ Some next.event
  pub first : (j other : ℕ) → j < count → get_or heads j None ≡ Some other → next.event ≤ other

abbrev pub IsBest : List (Option ℕ) → List ℕ → ℕ → Option Next → Type 0
IsBest heads taken count None = (j : ℕ) → j < count → get_or heads j None ≡ None
IsBest heads taken count (Some next) = IsBestOf heads taken count next

none_is_none : (e : ℕ) → ◌≡◌ {A = Option ℕ} None (Some e) → ⊥
none_is_none e h = absurd (cc h)

same_event : (e f : ℕ) → ◌≡◌ {A = Option ℕ} (Some e) (Some f) → e ≡ f
same_event e f h = cc h

module _ (heads : List (Option ℕ)) (taken : List ℕ) (k : ℕ) where
  -- up to k: before it, or at it
  upto : (j : ℕ) → j < k + 1 → (j < k) ⊎ (j ≡ k)
  upto j lt = grind arith

  no_head : (best : Option Next) → get_or heads k None ≡ None → IsBest heads taken k best → IsBest heads taken (k + 1) best
  no_head None none h = λ j lt. ⊎_elim (λ before. h j before) (λ (at : j ≡ k). ap (λ i. get_or heads i None) at ∙ none) (upto j lt)
  no_head (Some next) none h =
      record {
        part = let lt = h.part in omega (arith, lt);
        place = h.place;
        head = h.head;
        first = λ j other lt is.
            ⊎_elim (λ before. h.first j other before is) (λ (at : j ≡ k). absurd (none_is_none other (sym none ∙ ap (λ i. get_or heads i None) (sym at) ∙ is))) (upto j lt);
      }

  new_head : (n event : ℕ) → n ≡ get_or taken k 0 → get_or heads k None ≡ Some event → ((j other : ℕ) → j < k → get_or heads j None ≡ Some other → event ≤ other)
      → IsBestOf heads taken (k + 1) (record { part = k; set = n; event = event })
  new_head n event place is first =
      record {
        part = omega arith;
        place = place;
        head = is;
        first = λ j other lt has.
            ⊎_elim (λ before. first j other before has)
            (λ (at : j ≡ k). let e = same_event event other (sym is ∙ ap (λ i. get_or heads i None) (sym at) ∙ has) in omega (arith, e))
            (upto j lt);
      }

  pub best_step : (best : Option Next) (n : ℕ) (made : Option ℕ) → get_or heads k None ≡ made → n ≡ get_or taken k 0 → IsBest heads taken k best → IsBest heads taken (k + 1) (earlier_of best k n made)
  best_step best n None is place h = no_head best is h
  best_step None n (Some event) is place h = new_head n event place is (λ j other lt has. absurd (none_is_none other (sym (h j lt) ∙ has)))
  best_step (Some next) n (Some event) is place h =
      elim (nat_lt event next.event) as (λ b. nat_lt event next.event ≡ b → IsBest heads taken (k + 1) (cond b (Some (record { part = k; set = n; event = event })) (Some next))) [
        | true ↦ λ lt. new_head n event place is (λ j other before has. let le = h.first j other before has in let less = ltb-true event next.event lt in omega (arith, le, less))
        | false ↦ λ ge.
            record {
              part = let lt = h.part in omega (arith, lt);
              place = h.place;
              head = h.head;
              first = λ j other lt has.
                  ⊎_elim (λ before. h.first j other before has)
                  (λ (at : j ≡ k).
                  let e = same_event event other (sym is ∙ ap (λ i. get_or heads i None) (sym at) ∙ has) in
                  let le = ltb-false event next.event ge in omega (arith, e, le))
                  (upto j lt);
            }
      ] refl

within_heads : (heads : List (Option ℕ)) (j other : ℕ) → get_or heads j None ≡ Some other → j < length heads
within_heads [] j other is = absurd (none_is_none other is)
within_heads (h ∷ heads) zero other is = omega arith
within_heads (h ∷ heads) (suc j) other is = let lt = within_heads heads j other is in omega (arith, lt)

past_heads : (heads : List (Option ℕ)) (j : ℕ) → length heads ≤ j → get_or heads j None ≡ None
past_heads [] j le = refl
past_heads (h ∷ heads) zero le = absurd (omega arith)
past_heads (h ∷ heads) (suc j) le = past_heads heads j (omega arith)

pub best_is_first : (heads : List (Option ℕ)) (taken : List ℕ) (count : ℕ) (best : Option Next) → count ≡ length heads → IsBest heads taken count best → IsFirstHead count heads taken best
best_is_first heads taken count None all h = λ j. ⊎_elim (λ lt. h j (omega (arith, lt))) (λ le. past_heads heads j le) (cases_lt j (length heads))
best_is_first heads taken count (Some next) all h =
    (h.part, h.place, h.head, λ j other is. h.first j other (let lt = within_heads heads j other is in omega (arith, lt)) is)

pub none_is_next : (count : ℕ) (heads : List (Option ℕ)) (taken : List ℕ) (found : Option Next) → ((next : Next) → found ≡ Some next → ⊥) → IsFirstHead count heads taken found → IsFirstHead count heads taken None
none_is_next count heads taken None not h = h
none_is_next count heads taken (Some next) not h = absurd (not next refl)

-- ---- what was taken

-- how many sets are left
abbrev pub left_of : List Shard → List ℕ → ℕ
left_of [] taken = 0
left_of (s ∷ shards) [] = 0
left_of (s ∷ shards) (n ∷ taken) = (length s.log.events - n) + left_of shards taken

abbrev pub HasLog : Shard → Type 0
HasLog s = IsLogOf s.detector s.log

-- nothing was taken
pub cut_first : (shards : List Shard) → AreCutAt 0 shards (replicate (length shards) 0)
cut_first [] = tt
cut_first (s ∷ shards) = (record { within = omega arith; before = tt; behind = all_from s.log.events }, cut_first shards)
  where
    all_from : (events : List ℕ) → AllByRecursion (λ e. 0 ≤ e) events
    all_from [] = tt
    all_from (e ∷ events) = (omega arith, all_from events)

pub none_taken : (shards : List Shard) → taken_sets shards (replicate (length shards) 0) ≡ []
none_taken [] = refl
none_taken (s ∷ shards) = none_taken shards

-- the rest of a log is behind its head
rest_behind : (event n : ℕ) (events : List ℕ) → NeverFalls events → ((other : ℕ) → slice_get events n ≡ Some other → event ≤ other) → AllByRecursion (λ e. event ≤ e) (drop n events)
rest_behind event zero [] h head = tt
rest_behind event zero (e ∷ events) h head = let le = head e refl in (le, all_weaker (λ later. e ≤ later) (λ later. event ≤ later) events (λ later more. omega (arith, le, more)) h.0)
rest_behind event (suc n) [] h head = tt
rest_behind event (suc n) (e ∷ events) h head = rest_behind event n events h.1 head

pub cut_later : (event later : ℕ) (shards : List Shard) (taken : List ℕ) → event ≤ later → AllByRecursion HasLog shards → AreCutAt event shards taken → NoneBefore later (heads_of shards taken) → AreCutAt later shards taken
cut_later event later [] [] le logs h none = tt
cut_later event later [] (n ∷ taken) le logs h none = absurd h
cut_later event later (s ∷ shards) [] le logs h none = absurd h
cut_later event later (s ∷ shards) (n ∷ taken) le logs h none = (
  record {
    within = h.0.within;
    before = all_weaker (λ e. e ≤ event) (λ e. e ≤ later) (take n s.log.events) (λ e less. omega (arith, less, le)) h.0.before;
    behind = rest_behind later n s.log.events logs.0.rises (λ other is. none 0 other is);
  },
  cut_later event later shards taken le logs.1 h.1 (λ k other is. none (suc k) other is),
)

at_behind : (event n other : ℕ) (events : List ℕ) → AllByRecursion (λ e. event ≤ e) (drop n events) → slice_get events n ≡ Some other → event ≤ other
at_behind event n other [] h is = absurd (none_is_none other is)
at_behind event zero other (e ∷ events) h is = let same = same_event e other is in let le = h.0 in omega (arith, same, le)
at_behind event (suc n) other (e ∷ events) h is = at_behind event n other events h is

pub head_is_later : (event : ℕ) (shards : List Shard) (taken : List ℕ) (k other : ℕ) → AreCutAt event shards taken → get_or (heads_of shards taken) k None ≡ Some other → event ≤ other
head_is_later event [] [] k other h is = absurd (none_is_none other is)
head_is_later event [] (n ∷ taken) k other h is = absurd h
head_is_later event (s ∷ shards) [] k other h is = absurd h
head_is_later event (s ∷ shards) (n ∷ taken) zero other h is = at_behind event n other s.log.events h.0.behind is
head_is_later event (s ∷ shards) (n ∷ taken) (suc k) other h is = head_is_later event shards taken k other h.1 is

-- ---- one set more is taken

one_before : (event n : ℕ) (events : List ℕ) → slice_get events n ≡ Some event → AllByRecursion (λ e. e ≤ event) (take n events) → AllByRecursion (λ e. e ≤ event) (take (suc n) events)
one_before event n [] is h = absurd (none_is_none event is)
one_before event zero (e ∷ events) is h = (let same = same_event e event is in omega (arith, same), tt)
one_before event (suc n) (e ∷ events) is h = (h.0, one_before event n events is h.1)

one_behind : (P : ℕ → Type 0) (n : ℕ) (events : List ℕ) → AllByRecursion P (drop n events) → AllByRecursion P (drop (suc n) events)
one_behind P zero [] h = tt
one_behind P zero (e ∷ events) h = h.1
one_behind P (suc n) [] h = tt
one_behind P (suc n) (e ∷ events) h = one_behind P n events h

pub cut_one : (event : ℕ) (shards : List Shard) (taken : List ℕ) (k d : ℕ) → AreCutAt event shards taken → get_or (heads_of shards taken) k None ≡ Some event → AreCutAt event shards (set taken k (get_or taken k d + 1))
cut_one event [] [] k d h is = absurd (none_is_none event is)
cut_one event [] (n ∷ taken) k d h is = absurd h
cut_one event (s ∷ shards) [] k d h is = absurd h
cut_one event (s ∷ shards) (n ∷ taken) zero d h is =
    subst (λ (m : ℕ). AreCutAt event (s ∷ shards) (m ∷ taken)) (let e : suc n ≡ n + 1 = omega arith in e) (
      record {
        within = let lt = slice_get_within s.log.events n event is in omega (arith, lt);
        before = one_before event n s.log.events is h.0.before;
        behind = one_behind (λ e. event ≤ e) n s.log.events h.0.behind;
      },
      h.1,
    )
cut_one event (s ∷ shards) (n ∷ taken) (suc k) d h is = (h.0, cut_one event shards taken k d h.1 is)

pub left_one : (shards : List Shard) (taken : List ℕ) (k d event : ℕ) → get_or (heads_of shards taken) k None ≡ Some event → left_of shards (set taken k (get_or taken k d + 1)) < left_of shards taken
left_one [] taken k d event is = absurd (none_is_none event is)
left_one (s ∷ shards) [] k d event is = absurd (none_is_none event is)
left_one (s ∷ shards) (n ∷ taken) zero d event is = let lt = slice_get_within s.log.events n event is in omega (arith, lt)
left_one (s ∷ shards) (n ∷ taken) (suc k) d event is = let lt = left_one shards taken k d event is in omega (arith, lt)

or_swap : (a b c : Bool) → ((a || b) || c) ≡ ((a || c) || b)
or_swap true b c = refl
or_swap false true true = refl
or_swap false true false = refl
or_swap false false true = refl
or_swap false false false = refl

or_group : (a b c : Bool) → (a || (b || c)) ≡ ((a || b) || c)
or_group true b c = refl
or_group false b c = refl

or_last : (b : Bool) → (b || false) ≡ b
or_last true = refl
or_last false = refl

pub sets_one : (shards : List Shard) (taken : List ℕ) (k : ℕ) (s0 : Shard) (d event : ℕ) (q : List ℕ) → AllByRecursion HasLog shards → get_or (heads_of shards taken) k None ≡ Some event
    → has_set (taken_sets shards (set taken k (get_or taken k d + 1))) q ≡ has_set (taken_sets shards taken ++ set_at (get_or shards k s0).detector.sets.sets (get_or taken k d) ∷ []) q
sets_one [] taken k s0 d event q logs is = absurd (none_is_none event is)
sets_one (s ∷ shards) [] k s0 d event q logs is = absurd (none_is_none event is)
sets_one (s ∷ shards) (n ∷ taken) zero s0 d event q logs is =
    let sets = s.detector.sets.sets in
    let one = set_at sets n in
    let lt = slice_get_within s.log.events n event is in
    let le = logs.0.within in
    let more : take (n + 1) sets ≡ take n sets ++ one ∷ [] = ap (λ (m : ℕ). take m sets) (let e : n + 1 ≡ suc n = omega arith in e) ∙ take-suc sets n [] (omega (arith, lt, le)) in
    ap (λ (front : List (List ℕ)). has_set (front ++ taken_sets shards taken) q) more
    ∙ has_both (take n sets ++ one ∷ []) (taken_sets shards taken) q
    ∙ ap (λ b. b || has_set (taken_sets shards taken) q) (has_both (take n sets) (one ∷ []) q)
    ∙ or_swap (has_set (take n sets) q) (has_set (one ∷ []) q) (has_set (taken_sets shards taken) q)
    ∙ ap (λ b. b || has_set (one ∷ []) q) (sym (has_both (take n sets) (taken_sets shards taken) q))
    ∙ sym (has_both (take n sets ++ taken_sets shards taken) (one ∷ []) q)
sets_one (s ∷ shards) (n ∷ taken) (suc k) s0 d event q logs is =
    let front = take n s.detector.sets.sets in
    let one = set_at (get_or shards k s0).detector.sets.sets (get_or taken k d) in
    has_both front (taken_sets shards (set taken k (get_or taken k d + 1))) q
    ∙ ap (λ b. has_set front q || b) (sets_one shards taken k s0 d event q logs.1 is ∙ has_both (taken_sets shards taken) (one ∷ []) q)
    ∙ or_group (has_set front q) (has_set (taken_sets shards taken) q) (has_set (one ∷ []) q)
    ∙ ap (λ b. b || has_set (one ∷ []) q) (sym (has_both front (taken_sets shards taken) q))
    ∙ sym (has_both (front ++ taken_sets shards taken) (one ∷ []) q)

-- ---- what was made up to an event, and what was taken

-- the sets that were made in all shards up to event k
abbrev pub all_made : ℕ → List Shard → List (List ℕ)
all_made k shards = flat_map (made_in k) shards

-- what was taken of a shard was made by then
front_made : (k n : ℕ) (sets : List (List ℕ)) (events : List ℕ) (q : List ℕ) → n ≤ length events → AllByRecursion (λ e. e ≤ k) (take n events) → has_set (take n sets) q ≡ true → has_set (made_by k sets events) q ≡ true
front_made k zero sets events q le h has = absurd (false≢true has)
front_made k (suc n) [] events q le h has = absurd (false≢true has)
front_made k (suc n) (x ∷ sets) [] q le h has = absurd (omega arith)
front_made k (suc n) (x ∷ sets) (e ∷ events) q le h has =
    ap (λ b. has_set (cond b (x ∷ made_by k sets events) (made_by k sets events)) q) (le-leb e k h.0)
    ∙ ⊎_elim
    (λ here. or_left (pointwise nat_eq q x) (has_set (made_by k sets events) q) here)
    (λ later. or_right (pointwise nat_eq q x) (has_set (made_by k sets events) q) (front_made k n sets events q (omega arith) h.1 later))
    (or_cases (pointwise nat_eq q x) (has_set (take n sets) q) has)

pub taken_is_made : (event k : ℕ) (shards : List Shard) (taken : List ℕ) (q : List ℕ) → event ≤ k → AreCutAt event shards taken → has_set (taken_sets shards taken) q ≡ true → has_set (all_made k shards) q ≡ true
taken_is_made event k [] [] q le h has = absurd (false≢true has)
taken_is_made event k [] (n ∷ taken) q le h has = absurd h
taken_is_made event k (s ∷ shards) [] q le h has = absurd h
taken_is_made event k (s ∷ shards) (n ∷ taken) q le h has =
    has_both (made_in k s) (all_made k shards) q
    ∙ ⊎_elim
    (λ here.
    or_left (has_set (made_in k s) q) (has_set (all_made k shards) q)
    (front_made k n s.detector.sets.sets s.log.events q h.0.within (all_weaker (λ e. e ≤ event) (λ e. e ≤ k) (take n s.log.events) (λ e less. omega (arith, less, le)) h.0.before) here))
    (λ later. or_right (has_set (made_in k s) q) (has_set (all_made k shards) q) (taken_is_made event k shards taken q le h.1 later))
    (or_cases (has_set (take n s.detector.sets.sets) q) (has_set (taken_sets shards taken) q) (sym (has_both (take n s.detector.sets.sets) (taken_sets shards taken) q) ∙ has))

none_made : (k : ℕ) (sets : List (List ℕ)) (events : List ℕ) → AllByRecursion (λ e. k < e) events → made_by k sets events ≡ []
none_made k [] events h = refl
none_made k (x ∷ sets) [] h = refl
none_made k (x ∷ sets) (e ∷ events) h = ap (λ b. cond b (x ∷ made_by k sets events) (made_by k sets events)) (lt-leb e k h.0) ∙ none_made k sets events h.1

-- what was made by then was taken, where all that was not taken came later
made_front : (k n : ℕ) (sets : List (List ℕ)) (events : List ℕ) (q : List ℕ) → AllByRecursion (λ e. k < e) (drop n events) → has_set (made_by k sets events) q ≡ true → has_set (take n sets) q ≡ true
made_front k zero sets events q h has = absurd (false≢true (ap (λ (all : List (List ℕ)). has_set all q) (sym (none_made k sets events h)) ∙ has))
made_front k (suc n) [] events q h has = absurd (false≢true has)
made_front k (suc n) (x ∷ sets) [] q h has = absurd (false≢true has)
made_front k (suc n) (x ∷ sets) (e ∷ events) q h has = by (λ later. or_right (pointwise nat_eq q x) (has_set (take n sets) q) (made_front k n sets events q h later)) (nat_le e k) has
  where
    by : (has_set (made_by k sets events) q ≡ true → has_set (x ∷ take n sets) q ≡ true)
        → (b : Bool) → has_set (cond b (x ∷ made_by k sets events) (made_by k sets events)) q ≡ true → has_set (x ∷ take n sets) q ≡ true
    by more true has =
        ⊎_elim
        (λ here. or_left (pointwise nat_eq q x) (has_set (take n sets) q) here)
        (λ later. more later)
        (or_cases (pointwise nat_eq q x) (has_set (made_by k sets events) q) has)
    by more false has = more has

-- All that is left of each shard came after event k.
abbrev pub IsLaterLeft : ℕ → List Shard → List ℕ → Type 0
IsLaterLeft k [] [] = Unit {0}
IsLaterLeft k [] (n ∷ taken) = ⊥
IsLaterLeft k (s ∷ shards) [] = ⊥
IsLaterLeft k (s ∷ shards) (n ∷ taken) = AllByRecursion (λ e. k < e) (drop n s.log.events) × IsLaterLeft k shards taken

pub made_is_taken : (k : ℕ) (shards : List Shard) (taken : List ℕ) (q : List ℕ) → IsLaterLeft k shards taken → has_set (all_made k shards) q ≡ true → has_set (taken_sets shards taken) q ≡ true
made_is_taken k [] [] q h has = absurd (false≢true has)
made_is_taken k [] (n ∷ taken) q h has = absurd h
made_is_taken k (s ∷ shards) [] q h has = absurd h
made_is_taken k (s ∷ shards) (n ∷ taken) q h has =
    has_both (take n s.detector.sets.sets) (taken_sets shards taken) q
    ∙ ⊎_elim
    (λ here. or_left (has_set (take n s.detector.sets.sets) q) (has_set (taken_sets shards taken) q) (made_front k n s.detector.sets.sets s.log.events q h.0 here))
    (λ later. or_right (has_set (take n s.detector.sets.sets) q) (has_set (taken_sets shards taken) q) (made_is_taken k shards taken q h.1 later))
    (or_cases (has_set (made_in k s) q) (has_set (all_made k shards) q) (sym (has_both (made_in k s) (all_made k shards) q) ∙ has))

cut_is_later : (event k : ℕ) (shards : List Shard) (taken : List ℕ) → k < event → AreCutAt event shards taken → IsLaterLeft k shards taken
cut_is_later event k [] [] lt h = tt
cut_is_later event k [] (n ∷ taken) lt h = absurd h
cut_is_later event k (s ∷ shards) [] lt h = absurd h
cut_is_later event k (s ∷ shards) (n ∷ taken) lt h = (all_weaker (λ e. event ≤ e) (λ e. k < e) (drop n s.log.events) (λ e le. omega (arith, le, lt)) h.0.behind, cut_is_later event k shards taken lt h.1)

nothing_left : (P : ℕ → Type 0) (n : ℕ) (events : List ℕ) → slice_get events n ≡ None → AllByRecursion P (drop n events)
nothing_left P zero [] none = tt
nothing_left P zero (e ∷ events) none = absurd (none_is_none e (sym none))
nothing_left P (suc n) [] none = tt
nothing_left P (suc n) (e ∷ events) none = nothing_left P n events none

all_taken : (k : ℕ) (shards : List Shard) (taken : List ℕ) → length taken ≡ length shards → ((j : ℕ) → get_or (heads_of shards taken) j None ≡ None) → IsLaterLeft k shards taken
all_taken k [] [] same none = tt
all_taken k [] (n ∷ taken) same none = absurd (omega arith)
all_taken k (s ∷ shards) [] same none = absurd (omega arith)
all_taken k (s ∷ shards) (n ∷ taken) same none = (nothing_left (λ e. k < e) n s.log.events (none 0), all_taken k shards taken (omega arith) (λ j. none (suc j)))

-- ---- what comes next

module _ (shards : List Shard) (taken : List ℕ) (next : Next) (first : IsNextMade shards taken (Some next)) (s0 : Shard) where
  pub fewer_left : left_of shards (set taken next.part (next.set + 1)) < left_of shards taken
  fewer_left = subst (λ (n : ℕ). left_of shards (set taken next.part (n + 1)) < left_of shards taken) (sym first.1) (left_one shards taken next.part 0 next.event first.2)

  pub within_log : next.set < length (get_or shards next.part s0).log.events
  within_log = at shards taken next.part next.set next.event first.1 first.2
    where
      at : (shards : List Shard) (taken : List ℕ) (k n event : ℕ) → n ≡ get_or taken k 0 → get_or (heads_of shards taken) k None ≡ Some event → n < length (get_or shards k s0).log.events
      at [] taken k n event is head = absurd (none_is_none event head)
      at (s ∷ shards) [] k n event is head = absurd (none_is_none event head)
      at (s ∷ shards) (m ∷ taken) zero n event is head = let lt = slice_get_within s.log.events m event head in omega (arith, lt, is)
      at (s ∷ shards) (m ∷ taken) (suc k) n event is head = at shards taken k n event is head

  pub within_table : s0 ≡ get_or shards next.part s0 → All HasLog shards → next.set < length s0.detector.sets.sets
  within_table is_one all =
      subst (λ (s : Shard). next.set < length s.detector.sets.sets) (sym is_one)
      (let lt = within_log in let le = (all next.part s0 first.0).within in omega (arith, lt, le))

-- ---- the answers

pub size_within : (xs ys : List (List ℕ)) → ((q : List ℕ) → has_set xs q ≡ true → has_set ys q ≡ true) → size_with xs ≤ size_with ys
size_within xs ys h =
    at_least (unique_keys (pointwise nat_eq) ([] ∷ xs)) ([] ∷ ys) (unique_distinct ([] ∷ xs))
    (λ q has.
    ⊎_elim
    (λ empty. or_left (pointwise nat_eq q []) (has_set ys q) empty)
    (λ known. or_right (pointwise nat_eq q []) (has_set ys q) (h q known))
    (or_cases (pointwise nat_eq q []) (has_set xs q) (sym (unique_members ([] ∷ xs) q) ∙ has)))

-- the event that was found is the first up to which the shards have made more sets than the limit
abbrev pub FillsAt : ℕ → List Shard → Option ℕ → Type 0
FillsAt limit shards found = (k : ℕ) → nat_lt limit (size_with (all_made k shards)) ≡ is_found_by k found

pub same_sets : (limit : ℕ) (xs ys : List (List ℕ)) (t : Table) → ((q : List ℕ) → has_set ys q ≡ has_set xs q) → HasSets limit xs t → HasSets limit ys t
same_sets limit xs ys t same h =
    record { limit_is = h.limit_is; within = h.within; distinct = h.distinct; members = λ q. h.members q ∙ ap (λ b. pointwise nat_eq q [] || b) (sym (same q)) }

put_full : (b : Bool) (old new : Table) (one : List ℕ) → b ≡ false → PutsSet old one b new → (limit : ℕ) (sets : List (List ℕ)) → HasSets limit sets old → limit < size_with (sets ++ one ∷ [])
put_full true old new one is h = absurd (false≢true (sym is))
put_full false old new one is h = h.1

put_stays : (b : Bool) (old new : Table) (one : List ℕ) → b ≡ false → PutsSet old one b new → new ≡ old
put_stays true old new one is h = absurd (false≢true (sym is))
put_stays false old new one is h = h.0

put_taken : (b : Bool) (old new : Table) (one : List ℕ) → b ≡ true → PutsSet old one b new → (limit : ℕ) (sets : List (List ℕ)) → HasSets limit sets old → HasSets limit (sets ++ one ∷ []) new
put_taken true old new one is h = h
put_taken false old new one is h = absurd (false≢true is)

pub begins_taking : (limit : ℕ) (shards : List Shard) (t : Table) → HasSets limit [] t → IsTaking limit shards (replicate (length shards) 0) t
begins_taking limit shards t h =
    record {
      counts = length-replicate (length shards) 0;
      sets = subst (λ (sets : List (List ℕ)). HasSets limit sets t) (sym (none_taken shards)) h;
      event = 0;
      cut = cut_first shards;
    }

module _ (limit : ℕ) (shards : List Shard) (logs : AllByRecursion HasLog shards) where
  module _ (taken : List ℕ) (t : Table) (h : IsTaking limit shards taken t) where
    pub none_left : ((j : ℕ) → get_or (heads_of shards taken) j None ≡ None) → FillsAt limit shards None
    none_left none k =
        le-ltb limit (size_with (all_made k shards))
        (let few = size_within (all_made k shards) (taken_sets shards taken) (λ q. made_is_taken k shards taken q (all_taken k shards taken h.counts none)) in
        let size = size_is limit (taken_sets shards taken) t h.sets in
        let within = h.sets.within in omega (arith, few, size, within))

    module _ (next : Next) (first : IsNextMade shards taken (Some next)) (s0 : Shard) where
      abbrev one : List ℕ
      one = set_at (get_or shards next.part s0).detector.sets.sets next.set

      abbrev after : List ℕ
      after = set taken next.part (next.set + 1)

      cut_now : AreCutAt next.event shards taken
      cut_now = cut_later h.event next.event shards taken (head_is_later h.event shards taken next.part next.event h.cut first.2) logs h.cut first.3

      cut_after : AreCutAt next.event shards after
      cut_after = subst (λ (n : ℕ). AreCutAt next.event shards (set taken next.part (n + 1))) (sym first.1) (cut_one next.event shards taken next.part 0 cut_now first.2)

      sets_after : (q : List ℕ) → has_set (taken_sets shards after) q ≡ has_set (taken_sets shards taken ++ one ∷ []) q
      sets_after q =
          subst (λ (n : ℕ). has_set (taken_sets shards (set taken next.part (n + 1))) q ≡ has_set (taken_sets shards taken ++ set_at (get_or shards next.part s0).detector.sets.sets n ∷ []) q) (sym first.1)
          (sets_one shards taken next.part s0 0 next.event q logs first.2)

      pub takes : (new : Table) → HasSets limit (taken_sets shards taken ++ one ∷ []) new → IsTaking limit shards after new
      takes new has =
          record {
            counts = length-set taken next.part (next.set + 1) ∙ h.counts;
            sets = same_sets limit (taken_sets shards taken ++ one ∷ []) (taken_sets shards after) new sets_after has;
            event = next.event;
            cut = cut_after;
          }

      pub fills : limit < size_with (taken_sets shards taken ++ one ∷ []) → FillsAt limit shards (Some next.event)
      fills full k =
          elim (nat_le next.event k) as (λ b. nat_le next.event k ≡ b → nat_lt limit (size_with (all_made k shards)) ≡ b) [
            | true ↦ λ by.
                lt-ltb limit (size_with (all_made k shards))
                (let more = size_within (taken_sets shards taken ++ one ∷ []) (all_made k shards)
                (λ q has. taken_is_made next.event k shards after q (leb-true next.event k by) cut_after (sets_after q ∙ has)) in omega (arith, full, more))
            | false ↦ λ before.
                le-ltb limit (size_with (all_made k shards))
                (let few = size_within (all_made k shards) (taken_sets shards taken) (λ q. made_is_taken k shards taken q (cut_is_later next.event k shards taken (leb-false next.event k before) cut_now)) in
                let size = size_is limit (taken_sets shards taken) t h.sets in
                let within = h.sets.within in omega (arith, few, size, within))
          ] refl

      module _ (is_one : s0 ≡ get_or shards next.part s0) where
        pub full_put : (b : Bool) (new : Table) → b ≡ false → PutsSet t (set_at s0.detector.sets.sets next.set) b new → FillsAt limit shards (Some next.event)
        full_put b new is puts =
            fills
            (subst (λ (s : Shard). limit < size_with (taken_sets shards taken ++ set_at s.detector.sets.sets next.set ∷ [])) is_one
            (put_full b t new (set_at s0.detector.sets.sets next.set) is puts limit (taken_sets shards taken) h.sets))

        pub full_stays : (b : Bool) (new : Table) → b ≡ false → PutsSet t (set_at s0.detector.sets.sets next.set) b new → IsTaking limit shards taken new
        full_stays b new is puts = subst (λ (x : Table). IsTaking limit shards taken x) (sym (put_stays b t new (set_at s0.detector.sets.sets next.set) is puts)) h

        pub taken_put : (b : Bool) (new : Table) → b ≡ true → PutsSet t (set_at s0.detector.sets.sets next.set) b new → IsTaking limit shards after new
        taken_put b new is puts =
            takes new
            (subst (λ (s : Shard). HasSets limit (taken_sets shards taken ++ set_at s.detector.sets.sets next.set ∷ []) new) is_one
            (put_taken b t new (set_at s0.detector.sets.sets next.set) is puts limit (taken_sets shards taken) h.sets))
