-- What was taken of the sets of all parts, while these get more.
use Rattle.std.proofs.Common.{◌≡◌, ⊎_elim, ℕ, zero, suc, ◌+◌, ◌<◌, ◌≤◌, List, [], ◌∷◌, ◌++◌, length, take, drop, All, Option, Some, None, refl, sym, ap, ◌∙◌, subst, arith, length-append}
use Rattle.std.proofs.lemmas.Bool.{cases_lt}
use Rattle.std.specs.List.{AllByRecursion}
use Rattle.hg_model.specs.declared.event.Named.{Named}
use Rattle.hg_shards.specs.declared.full.Taking.{Taking}
use Rattle.hg_shards.specs.declared.routes.OwnAccess.{OwnAccess}
use Rattle.hg_shards.specs.declared.routes.Placed.{Placed}
use Rattle.hg_shards.specs.declared.shard.Shard.{Shard}
use Rattle.hg_shards.specs.declared.shards.Stop.{Stop}
use Rattle.hg_shards.specs.Asking.{HasSets}
use Rattle.hg_shards.specs.Batches.{EachTakes}
use Rattle.hg_shards.specs.Judging.{ArePartsFrom, KnowsTrace}
use Rattle.hg_shards.specs.Routed.{EachLists}
use Rattle.hg_shards.specs.Sharding.{GrowsTo, IsReady}
use Rattle.hg_shards.specs.Together.{AreCutAt, HasTaken, IsCutAt, IsTaking, taken_sets}
use Rattle.hg_shards.proofs.Batches.{grows_by}
use Rattle.hg_shards.proofs.Logging.{all_both, all_weaker}
use Rattle.hg_shards.proofs.Together.{each}

-- Each shard grew.
abbrev pub EachGrows : List Shard → List Shard → Type 0
EachGrows [] [] = Unit {0}
EachGrows [] (new ∷ news) = ⊥
EachGrows (old ∷ olds) [] = ⊥
EachGrows (old ∷ olds) (new ∷ news) = GrowsTo old new × EachGrows olds news

pub each_batch_grows : (olds : List Shard) (events : List Named) (stops : List (Option Stop)) (news : List Shard) → EachTakes olds events stops news → EachGrows olds news
each_batch_grows [] events [] [] g = tt
each_batch_grows (old ∷ olds) events (stop ∷ stops) (new ∷ news) g = (grows_by old new events stop g.0, each_batch_grows olds events stops news g.1)
each_batch_grows [] events [] (new ∷ news) g = absurd g
each_batch_grows [] events (stop ∷ stops) news g = absurd g
each_batch_grows (old ∷ olds) events [] news g = absurd g
each_batch_grows (old ∷ olds) events (stop ∷ stops) [] g = absurd g

pub each_list_grows : (source first : ℕ) (common : List Placed) (count : ℕ) (olds : List Shard) (lists : List (List OwnAccess)) (stops : List (Option Stop)) (news : List Shard) → EachLists source first common count olds lists stops news
    → EachGrows olds news
each_list_grows source first common count [] [] [] [] g = tt
each_list_grows source first common count (old ∷ olds) (own ∷ lists) (stop ∷ stops) (new ∷ news) g = (g.0.grows, each_list_grows source first common count olds lists stops news g.1)
each_list_grows source first common count [] [] [] (new ∷ news) g = absurd g
each_list_grows source first common count [] [] (stop ∷ stops) news g = absurd g
each_list_grows source first common count [] (own ∷ lists) stops news g = absurd g
each_list_grows source first common count (old ∷ olds) [] stops news g = absurd g
each_list_grows source first common count (old ∷ olds) (own ∷ lists) [] news g = absurd g
each_list_grows source first common count (old ∷ olds) (own ∷ lists) (stop ∷ stops) [] g = absurd g

-- ---- lists that grow at their ends

front_same : {X : Type 0} (n : ℕ) (xs ys : List X) → n ≤ length xs → take n (xs ++ ys) ≡ take n xs
front_same zero xs ys le = refl
front_same (suc n) [] ys le = absurd (omega arith)
front_same (suc n) (x ∷ xs) ys le = λ i. x ∷ front_same n xs ys (omega (arith, le)) i

rest_more : {X : Type 0} (n : ℕ) (xs ys : List X) → n ≤ length xs → drop n (xs ++ ys) ≡ drop n xs ++ ys
rest_more zero xs ys le = refl
rest_more (suc n) [] ys le = absurd (omega arith)
rest_more (suc n) (x ∷ xs) ys le = rest_more n xs ys (omega (arith, le))

both_bounds : (event last low n : ℕ) (events : List ℕ) → ((e : ℕ) → e ≤ event → e ≤ last → e ≤ low) → AllByRecursion (λ e. e ≤ event) (take n events) → AllByRecursion (λ e. e ≤ last) events
    → AllByRecursion (λ e. e ≤ low) (take n events)
both_bounds event last low zero events least h past = tt
both_bounds event last low (suc n) [] least h past = tt
both_bounds event last low (suc n) (e ∷ events) least h past = (least e h.0 past.0, both_bounds event last low n events least h.1 past.1)

-- ---- the shards

-- All events that the shards know are in their logs up to the last one.
pub record IsUpTo (last : ℕ) (s : Shard) : Type 0 where
  pub counted : s.detector.parts.events ≡ last
  pub past : AllByRecursion (λ e. e ≤ last) s.log.events
  pub within : length s.log.events ≤ length s.detector.sets.sets

module _ (last event low : ℕ) (under : low ≤ event) (below : low ≤ last) (least : (e : ℕ) → e ≤ event → e ≤ last → e ≤ low) where
  cut_one : (old new : Shard) (n : ℕ) → IsUpTo last old → GrowsTo old new → IsCutAt event old n → IsCutAt low new n
  cut_one old new n up g h =
      record {
        within =
            let le = h.within in
            let long = ap (λ (es : List ℕ). length es) g.log in
            let both = length-append old.log.events g.more_events in
            omega (arith, le, long, both);
        before = subst (AllByRecursion (λ e. e ≤ low)) (sym (ap (take n) g.log ∙ front_same n old.log.events g.more_events h.within)) (both_bounds event last low n old.log.events least h.before up.past);
        behind = subst (AllByRecursion (λ e. low ≤ e)) (sym (ap (drop n) g.log ∙ rest_more n old.log.events g.more_events h.within))
            (all_both (λ e. low ≤ e) (drop n old.log.events) g.more_events
            (all_weaker (λ e. event ≤ e) (λ e. low ≤ e) (drop n old.log.events) (λ e le. omega (arith, le, under)) h.behind)
            (all_weaker (λ e. old.detector.parts.events < e) (λ e. low ≤ e) g.more_events (λ e lt. let is = up.counted in omega (arith, lt, is, below)) g.later));
      }

  cut_all : (olds news : List Shard) (taken : List ℕ) → AllByRecursion (IsUpTo last) olds → EachGrows olds news → AreCutAt event olds taken → AreCutAt low news taken
  cut_all [] [] [] up g h = tt
  cut_all [] [] (n ∷ taken) up g h = absurd h
  cut_all [] (new ∷ news) taken up g h = absurd g
  cut_all (old ∷ olds) [] taken up g h = absurd g
  cut_all (old ∷ olds) (new ∷ news) [] up g h = absurd h
  cut_all (old ∷ olds) (new ∷ news) (n ∷ taken) up g h = (cut_one old new n up.0 g.0 h.0, cut_all olds news taken up.1 g.1 h.1)

same_taken : (last event : ℕ) (olds news : List Shard) (taken : List ℕ) → AllByRecursion (IsUpTo last) olds → EachGrows olds news → AreCutAt event olds taken → taken_sets news taken ≡ taken_sets olds taken
same_taken last event [] [] [] up g h = refl
same_taken last event [] [] (n ∷ taken) up g h = absurd h
same_taken last event [] (new ∷ news) taken up g h = absurd g
same_taken last event (old ∷ olds) [] taken up g h = absurd g
same_taken last event (old ∷ olds) (new ∷ news) [] up g h = absurd h
same_taken last event (old ∷ olds) (new ∷ news) (n ∷ taken) up g h = λ i. own i ++ same_taken last event olds news taken up.1 g.1 h.1 i
  where
    own : take n new.detector.sets.sets ≡ take n old.detector.sets.sets
    own = ap (take n) g.0.sets ∙ front_same n old.detector.sets.sets g.0.more_sets (let le = h.0.within in let within = up.0.within in omega (arith, le, within))

as_long : (olds news : List Shard) → EachGrows olds news → length news ≡ length olds
as_long [] [] g = refl
as_long [] (new ∷ news) g = absurd g
as_long (old ∷ olds) [] g = absurd g
as_long (old ∷ olds) (new ∷ news) g = let rest = as_long olds news g.1 in omega (arith, rest)

-- what was taken of the shards was taken of them as they are after they grew
carry : (limit last : ℕ) (olds news : List Shard) (t : Taking) → AllByRecursion (IsUpTo last) olds → EachGrows olds news → IsTaking limit olds t.taken.items t.table → IsTaking limit news t.taken.items t.table
carry limit last olds news t up g h =
    let cut : (low : ℕ) × AreCutAt low news t.taken.items =
    ⊎_elim
    (λ (lt : h.event < last). (h.event, cut_all last h.event h.event (omega arith) (omega (arith, lt)) (λ e one two. one) olds news t.taken.items up g h.cut))
    (λ (le : last ≤ h.event). (last, cut_all last h.event last le (omega arith) (λ e one two. two) olds news t.taken.items up g h.cut))
    (cases_lt h.event last) in
    record {
      counts = let many = h.counts in let long = as_long olds news g in omega (arith, many, long);
      sets = subst (λ (sets : List (List ℕ)). HasSets limit sets t.table) (sym (same_taken last h.event olds news t.taken.items up g h.cut)) h.sets;
      event = cut.0;
      cut = cut.1;
    }

up_to : (limit : ℕ) (trace : List Named) (count k : ℕ) (shards : List Shard) → AllByRecursion IsReady shards → ArePartsFrom (KnowsTrace limit trace) count k shards → AllByRecursion (IsUpTo (length trace)) shards
up_to limit trace count k [] ready h = tt
up_to limit trace count k (s ∷ shards) ready h = (
  record {
    counted = sym h.0.has.0.content.events;
    past = subst (λ (n : ℕ). AllByRecursion (λ e. e ≤ n) s.log.events) (sym h.0.has.0.content.events) ready.0.log.past;
    within = ready.0.log.within;
  },
  up_to limit trace count (k + 1) shards ready.1 h.1,
)

pub still_taken : (limit : ℕ) (trace : List Named) (count : ℕ) (olds news : List Shard) (taking : Option Taking) → All IsReady olds → ArePartsFrom (KnowsTrace limit trace) count 0 olds → EachGrows olds news → HasTaken limit olds taking
    → HasTaken limit news taking
still_taken limit trace count olds news None ready h g taken = tt
still_taken limit trace count olds news (Some t) ready h g taken = carry limit (length trace) olds news t (up_to limit trace count 0 olds (each IsReady olds ready) h) g taken
