-- A batch in lists, offered to the shards of all parts.
use Rattle.std.proofs.Common.{◌≡◌, ℕ, ◌+◌, ◌^◌, ◌<◌, ◌≤◌, get_or, slice_set, All, Bool, true, false, List, [], ◌∷◌, ◌++◌, take, drop, length, map, Option, Some, None, Vec, Result, Ok, Err, refl, sym, ap, ◌∙◌, subst, arith}
use Rattle.std.proofs.lemmas.Bool.{eq-eqb}
use Rattle.std.proofs.lemmas.Nat.{mod_below}
use Rattle.std.proofs.lemmas.List.{get_or-map, length-map, map-append, take-append-drop}
use Rattle.std.proofs.lemmas.Option.{slice_get_within}
use Rattle.std.proofs.lemmas.List.Elements.{All-append, All-drop, All-from_recursion, All-take}
use Rattle.std.specs.List.{AllByRecursion, range_with_len}
use Rattle.std.specs.Prelude.{IfOk, ◌-◌, ◌/◌, ◌&&◌, ◌||◌, ◌==◌, not}
use Rattle.hg_model.specs.declared.event.Event.{Event}
use Rattle.hg_model.specs.declared.event.Event.TheVariants.{Read, Write}
use Rattle.hg_model.specs.declared.event.Named.{Named}
use Rattle.hg_model.specs.declared.segment.Segment.{Segment}
use Rattle.hg_model.specs.Contents.{Content}
use Rattle.hg_model.specs.Verdicts.{IsAccepted}
use Rattle.hg_sets.specs.Interning.{Table}
use Rattle.hg_shards.specs.declared.full.Taking.{Taking}
use Rattle.hg_shards.specs.declared.judge.Judge.{Judge}
use Rattle.hg_shards.specs.declared.routes.OwnAccess.{OwnAccess}
use Rattle.hg_shards.specs.declared.routes.Placed.{Placed}
use Rattle.hg_shards.specs.declared.routes.Routes.{Routes}
use Rattle.hg_shards.specs.declared.shard.Shard.{Shard}
use Rattle.hg_shards.specs.declared.shards.Shards.{Shards}
use Rattle.hg_shards.specs.declared.shards.Stop.{Stop}
use Rattle.hg_shards.specs.Batches.{TakeBatch, earlier_stop, first_stop}
use Rattle.hg_shards.specs.Following.{TakesSeen, named, upto}
use Rattle.hg_shards.specs.Judging.{ArePartsFrom, Concludes, IsAt, IsPart, Judges, JudgesRoutes, KnowsTrace}
use Rattle.hg_shards.specs.Routed.{EachLists, TakeLists}
use Rattle.hg_shards.specs.Filling.{IsFirstFull}
use Rattle.hg_shards.specs.Routing.{common_from, is_routed, is_seen, items_of, own_from, own_lists}
use Rattle.hg_shards.specs.Seeing.{TakesLists}
use Rattle.hg_shards.specs.Sharding.{GoesOn, IsReady, page_part}
use Rattle.hg_shards.specs.Stopping.{accepted_of, one_stop}
use Rattle.hg_shards.specs.Together.{HasTaken}
use Rattle.hg_shards.proofs.Batches.{earlier_none, first_of_both}
use Rattle.hg_shards.proofs.Carrying.{each_list_grows, still_taken}
use Rattle.hg_shards.proofs.Following.{moves_on}
use Rattle.hg_shards.proofs.Judging.{EachEnds, Ends, StoppedBy, judges_by, judges_lem}
use Rattle.hg_shards.proofs.Seeing.{named_length}

-- ---- several shards

module _ (source first : ℕ) (common : List Placed) (count : ℕ) where
  each_of_both : (olds others : List Shard) (lists more : List (List OwnAccess)) (stops ends : List (Option Stop)) (news lasts : List Shard) → EachLists source first common count olds lists stops news
      → EachLists source first common count others more ends lasts → EachLists source first common count (olds ++ others) (lists ++ more) (stops ++ ends) (news ++ lasts)
  each_of_both [] others [] more [] ends [] lasts g h = h
  each_of_both (old ∷ olds) others (own ∷ lists) more (stop ∷ stops) ends (new ∷ news) lasts g h = (g.0, each_of_both olds others lists more stops ends news lasts g.1 h)
  each_of_both [] others [] more [] ends (new ∷ news) lasts g h = absurd g
  each_of_both [] others [] more (stop ∷ stops) ends news lasts g h = absurd g
  each_of_both [] others (own ∷ lists) more stops ends news lasts g h = absurd g
  each_of_both (old ∷ olds) others [] more stops ends news lasts g h = absurd g
  each_of_both (old ∷ olds) others (own ∷ lists) more [] ends news lasts g h = absurd g
  each_of_both (old ∷ olds) others (own ∷ lists) more (stop ∷ stops) ends [] lasts g h = absurd g

  pub lists_halves : (all olds others : List Shard) (every lists more : List (List OwnAccess)) (found one other : Option Stop) (news lasts : List Shard) → all ≡ olds ++ others → every ≡ lists ++ more → found ≡ earlier_stop one other
      → TakeLists source first common count olds lists one news → TakeLists source first common count others more other lasts → TakeLists source first common count all every found (news ++ lasts)
  lists_halves all olds others every lists more found one other news lasts whole total is g h =
      record {
        stops = g.stops ++ h.stops;
        each =
            subst (λ (shards : List Shard). EachLists source first common count shards every (g.stops ++ h.stops) (news ++ lasts)) (sym whole)
            (subst (λ (ls : List (List OwnAccess)). EachLists source first common count (olds ++ others) ls (g.stops ++ h.stops) (news ++ lasts)) (sym total)
            (each_of_both olds others lists more g.stops h.stops news lasts g.each h.each));
        first_is = is ∙ ap (λ s. earlier_stop s other) g.first_is ∙ ap (earlier_stop (first_stop g.stops)) h.first_is ∙ sym (first_of_both g.stops h.stops);
      }

  -- the one shard of a slice
  pub list_alone : (shards : List Shard) (lists : List (List OwnAccess)) (d new : Shard) (own : List OwnAccess) (stop : Option Stop) → length shards ≡ 1 → length lists ≡ length shards → own ≡ get_or lists 0 []
      → TakesLists (get_or shards 0 d) source first own common count stop new → TakeLists source first common count shards lists stop (slice_set shards 0 new)
  list_alone [] lists d new own stop one same is h = absurd (omega (arith, one))
  list_alone (s ∷ []) [] d new own stop one same is h = absurd (omega (arith, same))
  list_alone (s ∷ []) (l ∷ []) d new own stop one same is h =
      record { stops = stop ∷ []; each = (subst (λ (xs : List OwnAccess). TakesLists s source first xs common count stop new) is h, tt); first_is = sym (earlier_none stop) }
  list_alone (s ∷ []) (l ∷ m ∷ lists) d new own stop one same is h = absurd (omega (arith, same))
  list_alone (s ∷ t ∷ shards) lists d new own stop one same is h = absurd (omega (arith, one))

  each_ready : (olds : List Shard) (lists : List (List OwnAccess)) (stops : List (Option Stop)) (news : List Shard) → EachLists source first common count olds lists stops news → AllByRecursion IsReady news
  each_ready [] [] [] [] g = tt
  each_ready (old ∷ olds) (own ∷ lists) (stop ∷ stops) (new ∷ news) g = (g.0.ready, each_ready olds lists stops news g.1)
  each_ready [] [] [] (new ∷ news) g = absurd g
  each_ready [] [] (stop ∷ stops) news g = absurd g
  each_ready [] (own ∷ lists) stops news g = absurd g
  each_ready (old ∷ olds) [] stops news g = absurd g
  each_ready (old ∷ olds) (own ∷ lists) [] news g = absurd g
  each_ready (old ∷ olds) (own ∷ lists) (stop ∷ stops) [] g = absurd g

  pub lists_ready : (n : ℕ) (items olds : List Shard) (lists : List (List OwnAccess)) (found : Option Stop) (news : List Shard) → All IsReady items → TakeLists source first common count olds lists found news
      → All IsReady (take n (news ++ drop (length news) items))
  lists_ready n items olds lists found news ready h =
      All-take IsReady n (news ++ drop (length news) items)
      (All-append IsReady news (drop (length news) items) (All-from_recursion IsReady news (each_ready olds lists h.stops news h.each)) (All-drop IsReady (length news) items ready))

  each_many : (olds : List Shard) (lists : List (List OwnAccess)) (stops : List (Option Stop)) (news : List Shard) → EachLists source first common count olds lists stops news → length news ≡ length olds
  each_many [] [] [] [] g = refl
  each_many (old ∷ olds) (own ∷ lists) (stop ∷ stops) (new ∷ news) g = let rest = each_many olds lists stops news g.1 in omega (arith, rest)
  each_many [] [] [] (new ∷ news) g = absurd g
  each_many [] [] (stop ∷ stops) news g = absurd g
  each_many [] (own ∷ lists) stops news g = absurd g
  each_many (old ∷ olds) [] stops news g = absurd g
  each_many (old ∷ olds) (own ∷ lists) [] news g = absurd g
  each_many (old ∷ olds) (own ∷ lists) (stop ∷ stops) [] g = absurd g

  pub lists_many : (olds : List Shard) (lists : List (List OwnAccess)) (found : Option Stop) (news : List Shard) → TakeLists source first common count olds lists found news → length news ≡ length olds
  lists_many olds lists found news h = each_many olds lists h.stops news h.each

-- ---- what a batch in lists comes to

module _ (source first : ℕ) (events : List Event) (fits : first + length events ≤ 2 ^ 64) (trace : List Named) (limit : ℕ) where
  abbrev batch : List Named
  batch = named source first events

  within_batch : (old new : Shard) (sees : Event → Bool) (stop : Option Stop) → TakesSeen old batch sees stop new → accepted_of batch stop ≤ length batch
  within_batch old new sees None h = omega arith
  within_batch old new sees (Some stop) h = let lt = slice_get_within batch stop.place h.stops.0 h.stops.1 in omega (arith, lt)

  still : (old new : Shard) (sees : Event → Bool) (stop : Option Stop) → TakesSeen old batch sees stop new → KnowsTrace limit trace old → (i : ℕ) → i ≤ accepted_of batch stop → IsAccepted (upto batch trace i)
      → GoesOn (upto batch trace i) new
  still old new sees None h k i le ok = subst (λ (s : Shard). GoesOn (upto batch trace i) s) (sym h.stops) (h.took.goes_on trace k.0 limit k.1 i le ok)
  still old new sees (Some stop) h k i le ok =
      moves_on (upto batch trace i) h.between new h.stops.2.answers.rest (h.took.goes_on trace k.0 limit k.1 i le ok) h.stops.2.answers.moves

  list_ends : (parts k : ℕ) (old new : Shard) (stop : Option Stop) → TakesSeen old batch (is_seen parts k) stop new → new.count ≡ old.count → new.part ≡ old.part → IsPart (KnowsTrace limit trace) parts k old
      → Ends batch trace limit parts k (is_seen parts k) stop new
  list_ends parts k old new stop h same_count same_part part =
      record {
        count_is = same_count ∙ part.count_is;
        part_is = same_part ∙ part.part_is;
        within = within_batch old new (is_seen parts k) stop h;
        accepts = λ i n lt at seen ok. h.took.accepts trace part.has.0 i n lt at seen ok;
        goes_on = λ i le ok. still old new (is_seen parts k) stop h part.has i le ok;
        known = λ none ok. whole stop none h ok;
        stopped = λ s is ok. this_one s (subst (λ (x : Option Stop). TakesSeen old batch (is_seen parts k) x new) is h) ok;
      }
    where
      whole : (x : Option Stop) → x ≡ None → TakesSeen old batch (is_seen parts k) x new → IsAccepted (upto batch trace (length batch)) → KnowsTrace limit (upto batch trace (length batch)) new
      whole None none t ok =
          subst (λ (s : Shard). KnowsTrace limit (upto batch trace (length batch)) s) (sym t.stops) (t.took.follows trace part.has.0 ok, t.took.sets trace part.has.0 ok limit part.has.1)
      whole (Some x) none t ok = absurd (cc none)

      this_one : (s : Stop) → TakesSeen old batch (is_seen parts k) (Some s) new → IsAccepted (upto batch trace s.place) → StoppedBy batch trace limit s
      this_one s t ok =
          record {
            mid = t.between;
            new = new;
            next = t.stops.0;
            is_there = t.stops.1;
            knows = (t.took.follows trace part.has.0 ok, t.took.sets trace part.has.0 ok limit part.has.1);
            refuses = t.stops.2;
          }

  each_list : (parts k : ℕ) (common : List Placed) (count : ℕ) (olds : List Shard) (lists : List (List OwnAccess)) (stops : List (Option Stop)) (news : List Shard) → EachLists source first common count olds lists stops news
      → lists ≡ map (λ j. own_from parts j 0 events) (range_with_len k (length olds)) → common ≡ common_from 0 events → count ≡ length events → ArePartsFrom (KnowsTrace limit trace) parts k olds
      → EachEnds batch trace limit parts (is_seen parts) k stops news
  each_list parts k common count [] [] [] [] g is all many h = h
  each_list parts k common count (old ∷ olds) (own ∷ lists) (stop ∷ stops) (new ∷ news) g is all many h =
      let one = (same_lists is).0 in
      let seen = g.0.takes events (one ∙ (λ i. own_from (sym h.0.count_is i) (sym h.0.part_is i) 0 events)) all many fits in (
        list_ends parts k old new stop (subst (λ (f : Event → Bool). TakesSeen old batch f stop new) (λ i. is_seen (h.0.count_is i) (h.0.part_is i)) seen) (ap (λ (s : Shard). s.count) g.0.rest) (ap (λ (s : Shard). s.part) g.0.rest) h.0,
        each_list parts (k + 1) common count olds lists stops news g.1 (same_lists is).1 all many h.1,
      )
    where
      same_lists : {x y : List OwnAccess} {xs ys : List (List OwnAccess)} → ◌≡◌ {A = List (List OwnAccess)} (x ∷ xs) (y ∷ ys) → (x ≡ y) × (xs ≡ ys)
      same_lists q = (cc q, cc q)
  each_list parts k common count [] [] [] (new ∷ news) g is all many h = absurd g
  each_list parts k common count [] [] (stop ∷ stops) news g is all many h = absurd g
  each_list parts k common count [] (own ∷ lists) stops news g is all many h = absurd g
  each_list parts k common count (old ∷ olds) [] stops news g is all many h = absurd g
  each_list parts k common count (old ∷ olds) (own ∷ lists) [] news g is all many h = absurd g
  each_list parts k common count (old ∷ olds) (own ∷ lists) (stop ∷ stops) [] g is all many h = absurd g

-- some part sees each event
seen_by_some : (count : ℕ) (e : Event) → 0 < count → (k : ℕ) × (k < count) × (is_seen count k e ≡ true)
seen_by_some count (Read a) some = (page_part count (a.at / 1024), mod_below _ count some, by (is_routed (Read a)) (page_part count ((a.at + (a.len - 1)) / 1024) == page_part count (a.at / 1024)))
  where
    by : (routed other : Bool) → (not routed || (routed && ((page_part count (a.at / 1024) == page_part count (a.at / 1024)) || other))) ≡ true
    by true other = ap (λ b. b || other) (eq-eqb _ _ refl)
    by false other = refl
seen_by_some count (Write a) some = (page_part count (a.at / 1024), mod_below _ count some, by (is_routed (Write a)) (page_part count ((a.at + (a.len - 1)) / 1024) == page_part count (a.at / 1024)))
  where
    by : (routed other : Bool) → (not routed || (routed && ((page_part count (a.at / 1024) == page_part count (a.at / 1024)) || other))) ≡ true
    by true other = ap (λ b. b || other) (eq-eqb _ _ refl)
    by false other = refl
seen_by_some count e some = (0, some, refl)

-- what is concluded of the sets, by the limit and the table before the batch
concluded : {limit : ℕ} {taking : Option Taking} (mid new : Judge) (found stop : Option Stop) (n : ℕ) → mid.limit ≡ limit → mid.taking ≡ taking → (end : Concludes mid n found stop new) → HasTaken limit mid.shards.shards.items taking
    → IsFirstFull limit mid.shards.shards.items end.found × HasTaken limit mid.shards.shards.items new.taking
concluded {limit} {taking} mid new found stop n limit_is taking_is end taken =
    let before : HasTaken mid.limit mid.shards.shards.items mid.taking =
    subst (λ (t : Option Taking). HasTaken mid.limit mid.shards.shards.items t) (sym taking_is) (subst (λ (l : ℕ). HasTaken l mid.shards.shards.items taking) (sym limit_is) taken) in (
      subst (λ (l : ℕ). IsFirstFull l mid.shards.shards.items end.found) limit_is (end.full before),
      subst (λ (l : ℕ). HasTaken l mid.shards.shards.items new.taking) limit_is (end.taken before),
    )

pub judges_routes : (old mid new : Judge) (source first : ℕ) (routes : Routes) (found stop : Option Stop) → TakeLists source first routes.common.items routes.count old.shards.shards.items (items_of routes.lists.items) found mid.shards.shards.items
    → length routes.lists.items ≡ length old.shards.shards.items → mid.limit ≡ old.limit → mid.events ≡ old.events → mid.taking ≡ old.taking → new.limit ≡ mid.limit → new.shards ≡ mid.shards → (n : ℕ) → n ≡ routes.count
    → Concludes mid n found stop new → JudgesRoutes old source first routes stop new
judges_routes old mid new source first routes found stop took same limit_is events_are taking_is limit_stays shards_stay n count_is end = λ events routed fits.
    let many = named_length source first events ∙ sym routed.count ∙ sym count_is in
    judges_by old new (named source first events) found end.found mid.shards.shards.items stop (length old.shards.shards.items) (is_seen (length old.shards.shards.items))
    (λ trace table ok all has taken.
    let now = concluded mid new found stop n limit_is taking_is end
    (still_taken old.limit trace (length old.shards.shards.items) old.shards.shards.items mid.shards.shards.items old.taking old.shards.ready all.1
    (each_list_grows source first routes.common.items routes.count old.shards.shards.items (items_of routes.lists.items) took.stops mid.shards.shards.items took.each) taken) in (
      record {
        stops = took.stops;
        each =
            each_list source first events fits trace old.limit (length old.shards.shards.items) 0 routes.common.items routes.count old.shards.shards.items (items_of routes.lists.items) took.stops mid.shards.shards.items took.each
            (routed.own ∙ ap (λ n. own_lists n events) same) routed.common routed.count all.1;
        first_is = took.first_is;
        seen = λ e. seen_by_some (length old.shards.shards.items) e all.0;
        some = all.0;
        full = now.0;
        has = has;
        ok = ok;
      },
      now.1,
    ))
    (end.stop_is (named source first events) many ∙ ap (λ n. one_stop n (named source first events) found end.found) events_are)
    (limit_stays ∙ limit_is)
    (ap (λ (s : Shards). s.shards.items) shards_stay)
    (subst (λ (n : ℕ). n + accepted_of (named source first events) stop < 2 ^ 64 → new.events ≡ n + accepted_of (named source first events) stop) events_are (end.counts (named source first events) many))
    end.no_memory

-- the same of a batch of named events
pub judges_batch : (old mid new : Judge) (events : List Named) (found stop : Option Stop) → TakeBatch old.shards.shards.items events found mid.shards.shards.items → mid.limit ≡ old.limit → mid.events ≡ old.events → mid.taking ≡ old.taking
    → new.limit ≡ mid.limit → new.shards ≡ mid.shards → Concludes mid (length events) found stop new → Judges old events stop new
judges_batch old mid new events found stop took limit_is events_are taking_is limit_stays shards_stay end =
    judges_lem old new events found end.found mid.shards.shards.items stop took (concluded mid new found stop (length events) limit_is taking_is end)
    (end.stop_is events refl ∙ ap (λ n. one_stop n events found end.found) events_are)
    (limit_stays ∙ limit_is)
    (ap (λ (s : Shards). s.shards.items) shards_stay)
    (subst (λ (n : ℕ). n + accepted_of events stop < 2 ^ 64 → new.events ≡ n + accepted_of events stop) events_are (end.counts events refl))
    end.no_memory

pub segments_are : (c : Content) (table : Table) (j : Judge) (s d : Shard) → IsAt c table j → s ≡ get_or j.shards.shards.items 0 d → length s.detector.segments ≡ length c.segments
segments_are c table j s d h is = by j.shards.shards.items h.parts.0 h.parts.1 is
  where
    by : (shards : List Shard) → 0 < length shards → ArePartsFrom (KnowsTrace j.limit h.trace) (length shards) 0 shards → s ≡ get_or shards 0 d → length s.detector.segments ≡ length c.segments
    by [] some parts here = absurd (omega (arith, some))
    by (x ∷ shards) some parts here =
        ap (λ (y : Shard). length y.detector.segments) here ∙ ap (λ (ss : List Segment). length ss) (sym parts.0.has.0.content.segments) ∙ ap (λ (d : Content). length d.segments) (sym h.content)

pub if_ok_on : {X E : Type 0} {P Q : X → Type 0} (r : Result X E) → ((x : X) → P x → Q x) → IfOk r P → IfOk r Q
if_ok_on (Ok x) f h = f x h
if_ok_on (Err e) f h = h

pub first_items : {Z : Type 0} (lists : List (Vec OwnAccess Z)) → length (items_of lists) ≡ length lists
first_items lists = length-map lists (λ list. list.items)

pub both_items : {Z : Type 0} (lists : List (Vec OwnAccess Z)) (list : Vec OwnAccess Z) → 0 < length lists → list ≡ get_or lists 0 list → list.items ≡ get_or (items_of lists) 0 []
both_items lists list some is = ap (λ l. l.items) is ∙ sym (get_or-map (λ l. l.items) lists 0 list [] some)

pub halves_of : {Z : Type 0} (mid : ℕ) (all front back : List (Vec OwnAccess Z)) → front ≡ take mid all → back ≡ drop mid all → items_of all ≡ items_of front ++ items_of back
halves_of mid all front back is rest =
    ap items_of (sym (take-append-drop mid all) ∙ (λ i. sym is i ++ sym rest i)) ∙ map-append (λ l. l.items) front back
