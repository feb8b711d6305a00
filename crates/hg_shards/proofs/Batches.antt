-- Batches of events, offered to one shard and to several.
use Rattle.std.proofs.Common.{◌≡◌, ℕ, ◌+◌, ◌<◌, nat_lt, get_or, slice_set, All, ◌⊎◌, ⊎_elim, Bool, true, false, List, [], ◌∷◌, ◌++◌, take, drop, reverse, length, Option, Some, None, Result, Ok, Err, refl, sym, ap, ◌∙◌, subst, arith, ltb-true, lt-ltb, slice_get}
use Rattle.std.proofs.lemmas.Bool.{false≢true}
use Rattle.std.proofs.lemmas.List.{get_or_append_left, get_or_push, length_push, reverse-append, take_more}
use Rattle.std.proofs.lemmas.Option.{get_or_from_slice_get, slice_get_within}
use Rattle.std.proofs.lemmas.List.Elements.{All-append, All-drop, All-from_recursion, All-take}
use Rattle.std.specs.List.{AllByRecursion}
use Rattle.std.specs.Prelude.{if◌then◌else◌}
use Rattle.hg_model.specs.declared.event.Named.{Named}
use Rattle.hg_model.specs.declared.verdict.Refusal.{Refusal}
use Rattle.hg_detect.specs.declared.detector.Answer.{Answer}
use Rattle.hg_detect.specs.declared.detector.Answer.TheVariants as answers
use Rattle.hg_shards.specs.declared.shard.Shard.{Shard}
use Rattle.hg_shards.specs.declared.shards.Cause.{Cause}
use Rattle.hg_shards.specs.declared.shards.Cause.TheVariants as causes
use Rattle.hg_shards.specs.declared.shards.Stop.{Stop}
use Rattle.hg_shards.specs.Batches.{BeginUpTo, EachTakes, TakeBatch, TakesAll, TakesBatch, cause_of, earlier_stop, first_stop}
use Rattle.hg_shards.specs.Sharding.{AnswersShard, BeginsFor, Follows, GrowsTo, HasOwnSets, IsReady}
use Rattle.hg_shards.proofs.Growing.{grows_not, grows_on}

-- ---- one shard

-- no event was offered yet
pub takes_none : (s : Shard) → IsReady s → TakesAll s [] s
takes_none s ready = record { rest = refl; ready = ready; grows = grows_not s; follows = λ trace k. k; sets = λ trace k limit own. own }

-- an event without a cause was accepted
pub accepted_by : (answer : Result Answer Refusal) → ((cause : Cause) → cause_of answer ≡ Some cause → ⊥) → answer ≡ Ok answers.Accepted
accepted_by (Ok answers.Accepted) none = refl
accepted_by (Ok (answers.Duplicate last)) none = absurd (none (causes.Duplicate last) refl)
accepted_by (Err r) none = absurd (none (causes.Refused r) refl)

-- a trace with one event more of a batch
pub one_onto : (events : List Named) (i : ℕ) (n : Named) (trace : List Named) → slice_get events i ≡ Some n → reverse (take (i + 1) events) ++ trace ≡ n ∷ (reverse (take i events) ++ trace)
one_onto events i n trace at =
    ap (λ xs. reverse xs ++ trace) (take_more events i n (slice_get_within events i n at) ∙ ap (λ x. take i events ++ x ∷ []) (get_or_from_slice_get events i n n at))
    ∙ ap (λ xs. xs ++ trace) (reverse-append (take i events) (n ∷ []))

-- one event more was accepted
pub takes_more : (old mid new : Shard) (events : List Named) (i : ℕ) (n : Named) → slice_get events i ≡ Some n → TakesAll old (take i events) mid → (answer : Result Answer Refusal) → answer ≡ Ok answers.Accepted → AnswersShard mid n answer new
    → TakesAll old (take (i + 1) events) new
takes_more old mid new events i n at all answer was given =
    let a = subst (λ (r : Result Answer Refusal). AnswersShard mid n r new) was given in
    record {
      rest = a.rest ∙ ap (λ (s : Shard). record s { detector = new.detector; log = new.log }) all.rest;
      ready = a.ready;
      grows = grows_on old mid new all.grows a.moves.grows;
      follows = λ trace k. subst (λ (past : List Named). Follows past new) (sym (turned trace)) (a.after_any (before trace) (all.follows trace k)).follows;
      sets = λ trace k limit own. subst (λ (past : List Named). HasOwnSets limit past new) (sym (turned trace)) ((a.after_any (before trace) (all.follows trace k)).sets limit (all.sets trace k limit own) refl);
    }
  where
    before : List Named → List Named
    before trace = reverse (take i events) ++ trace

    turned : (trace : List Named) → reverse (take (i + 1) events) ++ trace ≡ n ∷ before trace
    turned trace = one_onto events i n trace at

-- a shard that was offered a batch grew, whether it stopped or not
pub grows_by : (old new : Shard) (events : List Named) (stop : Option Stop) → TakesBatch old events stop new → GrowsTo old new
grows_by old new events None h = subst (GrowsTo old) (sym h.stops) h.takes.grows
grows_by old new events (Some stop) h = grows_on old h.between new h.takes.grows h.stops.2.answers.moves.grows

-- ---- the first of several stops

module _ (a b c : Stop) where
  by_last : (p q r : Bool) → nat_lt b.place a.place ≡ p → nat_lt c.place b.place ≡ q → nat_lt c.place a.place ≡ r
      → earlier_stop (Some a) (earlier_stop (Some b) (Some c)) ≡ (if q then (if r then Some c else Some a) else (if p then Some b else Some a))
  by_last p true r is_p is_q is_r = ap (λ t. earlier_stop (Some a) (if t then Some c else Some b)) is_q ∙ ap (λ t. if t then Some c else Some a) is_r
  by_last p false r is_p is_q is_r = ap (λ t. earlier_stop (Some a) (if t then Some c else Some b)) is_q ∙ ap (λ t. if t then Some b else Some a) is_p

  by_first : (p q r : Bool) → nat_lt b.place a.place ≡ p → nat_lt c.place b.place ≡ q → nat_lt c.place a.place ≡ r
      → earlier_stop (earlier_stop (Some a) (Some b)) (Some c) ≡ (if p then (if q then Some c else Some b) else (if r then Some c else Some a))
  by_first true q r is_p is_q is_r = ap (λ t. earlier_stop (if t then Some b else Some a) (Some c)) is_p ∙ ap (λ t. if t then Some c else Some b) is_q
  by_first false q r is_p is_q is_r = ap (λ t. earlier_stop (if t then Some b else Some a) (Some c)) is_p ∙ ap (λ t. if t then Some c else Some a) is_r

  alike : (p q r : Bool) → nat_lt b.place a.place ≡ p → nat_lt c.place b.place ≡ q → nat_lt c.place a.place ≡ r
      → ◌≡◌ {A = Option Stop} (if q then (if r then Some c else Some a) else (if p then Some b else Some a)) (if p then (if q then Some c else Some b) else (if r then Some c else Some a))
  alike true true true is_p is_q is_r = refl
  alike true true false is_p is_q is_r =
      let below = ltb-true b.place a.place is_p in
      let under = ltb-true c.place b.place is_q in
      absurd (false≢true (sym is_r ∙ lt-ltb c.place a.place (omega (arith, below, under))))
  alike true false r is_p is_q is_r = refl
  alike false true r is_p is_q is_r = refl
  alike false false true is_p is_q is_r =
      let below = ltb-true c.place a.place is_r in
      absurd (not_before (λ lt. false≢true (sym is_q ∙ lt-ltb c.place b.place lt)) (λ lt. false≢true (sym is_p ∙ lt-ltb b.place a.place lt)) below)
    where
      not_before : (c.place < b.place → ⊥) → (b.place < a.place → ⊥) → c.place < a.place → ⊥
      not_before one other lt = omega (arith, one, other, lt)
  alike false false false is_p is_q is_r = refl

  three : earlier_stop (Some a) (earlier_stop (Some b) (Some c)) ≡ earlier_stop (earlier_stop (Some a) (Some b)) (Some c)
  three =
      let p = nat_lt b.place a.place in
      let q = nat_lt c.place b.place in
      let r = nat_lt c.place a.place in
      by_last p q r refl refl refl ∙ alike p q r refl refl refl ∙ sym (by_first p q r refl refl refl)

pub earlier_none : (a : Option Stop) → earlier_stop a None ≡ a
earlier_none None = refl
earlier_none (Some a) = refl

earlier_of_three : (a b c : Option Stop) → earlier_stop a (earlier_stop b c) ≡ earlier_stop (earlier_stop a b) c
earlier_of_three None b c = refl
earlier_of_three (Some a) None c = refl
earlier_of_three (Some a) (Some b) None = sym (earlier_none (earlier_stop (Some a) (Some b)))
earlier_of_three (Some a) (Some b) (Some c) = three a b c

pub first_of_both : (stops others : List (Option Stop)) → first_stop (stops ++ others) ≡ earlier_stop (first_stop stops) (first_stop others)
first_of_both [] others = refl
first_of_both (stop ∷ stops) others = ap (earlier_stop stop) (first_of_both stops others) ∙ earlier_of_three stop (first_stop stops) (first_stop others)

-- ---- several shards

each_of_both : (olds others : List Shard) (events : List Named) (stops ends : List (Option Stop)) (news lasts : List Shard) → EachTakes olds events stops news → EachTakes others events ends lasts
    → EachTakes (olds ++ others) events (stops ++ ends) (news ++ lasts)
each_of_both [] others events [] ends [] lasts g h = h
each_of_both (old ∷ olds) others events (stop ∷ stops) ends (new ∷ news) lasts g h = (g.0, each_of_both olds others events stops ends news lasts g.1 h)
each_of_both [] others events [] ends (new ∷ news) lasts g h = absurd g
each_of_both [] others events (stop ∷ stops) ends news lasts g h = absurd g
each_of_both (old ∷ olds) others events [] ends news lasts g h = absurd g
each_of_both (old ∷ olds) others events (stop ∷ stops) ends [] lasts g h = absurd g

both_take : (olds others : List Shard) (events : List Named) (one other : Option Stop) (news lasts : List Shard) → TakeBatch olds events one news → TakeBatch others events other lasts
    → TakeBatch (olds ++ others) events (earlier_stop one other) (news ++ lasts)
both_take olds others events one other news lasts g h =
    record {
      stops = g.stops ++ h.stops;
      each = each_of_both olds others events g.stops h.stops news lasts g.each h.each;
      first_is = ap (λ s. earlier_stop s other) g.first_is ∙ ap (earlier_stop (first_stop g.stops)) h.first_is ∙ sym (first_of_both g.stops h.stops);
    }

one_takes : (old new : Shard) (events : List Named) (stop : Option Stop) → TakesBatch old events stop new → TakeBatch (old ∷ []) events stop (new ∷ [])
one_takes old new events stop h = record { stops = stop ∷ []; each = (h, tt); first_is = sym (earlier_none stop) }

-- the one shard of a slice
pub alone : (shards : List Shard) (d new : Shard) (events : List Named) (stop : Option Stop) → length shards ≡ 1 → TakesBatch (get_or shards 0 d) events stop new
    → TakeBatch shards events stop (slice_set shards 0 new)
alone [] d new events stop one h = absurd (omega (arith, one))
alone (s ∷ []) d new events stop one h = one_takes s new events stop h
alone (s ∷ t ∷ shards) d new events stop one h = absurd (omega (arith, one))

-- two halves of a slice
pub halves_take : (all olds others : List Shard) (events : List Named) (first one other : Option Stop) (news lasts : List Shard) → all ≡ olds ++ others → first ≡ earlier_stop one other
    → TakeBatch olds events one news → TakeBatch others events other lasts → TakeBatch all events first (news ++ lasts)
halves_take all olds others events first one other news lasts whole is g h =
    subst (λ (shards : List Shard). TakeBatch shards events first (news ++ lasts)) (sym whole)
    (subst (λ (stop : Option Stop). TakeBatch (olds ++ others) events stop (news ++ lasts)) (sym is) (both_take olds others events one other news lasts g h))

-- ---- the shards of an empty trace

split_lt : (i n : ℕ) → i < n + 1 → (i < n) ⊎ (i ≡ n)
split_lt i n lt = grind arith

-- one shard more was made
pub begins_more : (made count limit : ℕ) (shards : List Shard) (s : Shard) → BeginUpTo made count limit shards → BeginsFor count made limit s
    → BeginUpTo (made + 1) count limit (shards ++ s ∷ [])
begins_more made count limit shards s h n =
    record {
      count_is = length_push shards s ∙ ap (λ k. k + 1) h.count_is;
      begin = λ k d lt. ⊎_elim (λ low. earlier k d low) (λ here. last k d here) (split_lt k made lt);
    }
  where
    earlier : (k : ℕ) (d : Shard) → k < made → BeginsFor count k limit (get_or (shards ++ s ∷ []) k d)
    earlier k d low =
        let len = h.count_is in
        subst (λ (x : Shard). BeginsFor count k limit x) (sym (get_or_append_left shards (s ∷ []) d k (omega (arith, low, len)))) (h.begin k d low)

    last : (k : ℕ) (d : Shard) → k ≡ made → BeginsFor count k limit (get_or (shards ++ s ∷ []) k d)
    last k d here =
        subst (λ (x : Shard). BeginsFor count k limit x) (sym (get_or_push shards s d k (h.count_is ∙ sym here)))
        (subst (λ (m : ℕ). BeginsFor count m limit s) (sym here) n)

-- ---- the shards stay ready

-- a shard that was offered a batch may be offered the next one
ready_still : (old new : Shard) (events : List Named) (stop : Option Stop) → TakesBatch old events stop new → IsReady new
ready_still old new events None h = subst (λ (s : Shard). IsReady s) (sym h.stops) h.takes.ready
ready_still old new events (Some stop) h = h.stops.2.answers.ready

each_ready : (olds : List Shard) (events : List Named) (stops : List (Option Stop)) (news : List Shard) → EachTakes olds events stops news → AllByRecursion IsReady news
each_ready [] events [] [] g = tt
each_ready (old ∷ olds) events (stop ∷ stops) (new ∷ news) g = (ready_still old new events stop g.0, each_ready olds events stops news g.1)
each_ready [] events [] (new ∷ news) g = absurd g
each_ready [] events (stop ∷ stops) news g = absurd g
each_ready (old ∷ olds) events [] news g = absurd g
each_ready (old ∷ olds) events (stop ∷ stops) [] g = absurd g

ready_after : (olds : List Shard) (events : List Named) (first : Option Stop) (news : List Shard) → TakeBatch olds events first news → All IsReady news
ready_after olds events first news h = All-from_recursion IsReady news (each_ready olds events h.stops news h.each)

-- so may all of them, where the slice that was offered the batch goes back to its vector
pub ready_lent : (n : ℕ) (items olds : List Shard) (events : List Named) (first : Option Stop) (news : List Shard) → All IsReady items → TakeBatch olds events first news
    → All IsReady (take n (news ++ drop (length news) items))
ready_lent n items olds events first news ready h =
    All-take IsReady n (news ++ drop (length news) items)
    (All-append IsReady news (drop (length news) items) (ready_after olds events first news h) (All-drop IsReady (length news) items ready))

each_length : (olds : List Shard) (events : List Named) (stops : List (Option Stop)) (news : List Shard) → EachTakes olds events stops news → length news ≡ length olds
each_length [] events [] [] g = refl
each_length (old ∷ olds) events (stop ∷ stops) (new ∷ news) g = let rest = each_length olds events stops news g.1 in omega (arith, rest)
each_length [] events [] (new ∷ news) g = absurd g
each_length [] events (stop ∷ stops) news g = absurd g
each_length (old ∷ olds) events [] news g = absurd g
each_length (old ∷ olds) events (stop ∷ stops) [] g = absurd g

-- there are as many shards as before
pub as_many : (olds : List Shard) (events : List Named) (first : Option Stop) (news : List Shard) → TakeBatch olds events first news → length news ≡ length olds
as_many olds events first news h = each_length olds events h.stops news h.each
