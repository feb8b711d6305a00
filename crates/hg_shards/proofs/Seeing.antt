-- What comes next of the lists of a part, and what is passed over before it.
use Rattle.std.proofs.Common.{◌≡◌, get_or, min, ℕ, zero, suc, ◌+◌, ◌-◌, ◌*◌, ◌/◌, ◌^◌, ◌<◌, ◌≤◌, nat_lt, Bool, true, false, not, ◌&&◌, ◌||◌, List, [], ◌∷◌, length, take, drop, slice_get, Option, Some, None, Result, refl, sym, ap, ◌∙◌, subst, arith, eqb-true}
use Rattle.std.proofs.lemmas.Bool.{false≢true, or_parts, and_parts, eqb-false, ltb-false, ltb-true}
use Rattle.std.proofs.Math.Seq.{take-length}
use Rattle.std.specs.List.{AllByRecursion}
use Rattle.std.specs.Prelude.{◌==◌, if◌then◌else◌}
use Rattle.hg_model.specs.declared.event.Access.{Access}
use Rattle.hg_model.specs.declared.event.Event.{Event}
use Rattle.hg_model.specs.declared.event.Event.TheVariants.{Read, Write}
use Rattle.hg_model.specs.declared.event.Named.{Named}
use Rattle.hg_model.specs.declared.verdict.Refusal.{Refusal}
use Rattle.hg_model.specs.History.{overlaps}
use Rattle.hg_model.specs.Verdicts.{passes_end}
use Rattle.hg_rules.specs.Counting.{counted_on}
use Rattle.hg_detect.specs.declared.detector.Answer.{Answer}
use Rattle.hg_shards.specs.declared.routes.OwnAccess.{OwnAccess}
use Rattle.hg_shards.specs.declared.routes.Placed.{Placed}
use Rattle.hg_shards.specs.declared.shard.Shard.{Shard}
use Rattle.hg_shards.specs.declared.shards.Cause.{Cause}
use Rattle.hg_shards.specs.Alike.{PassesBy, ReadBy, Touch, Untouched, WrittenBy}
use Rattle.hg_shards.specs.Batches.{cause_of}
use Rattle.hg_shards.specs.Following.{SeesUpto, TakesSeen, named}
use Rattle.hg_shards.specs.Logging.{Log}
use Rattle.hg_shards.specs.Routing.{common_from, is_own, is_routed, is_seen, own_access, own_from, touches_part}
use Rattle.hg_shards.specs.Seeing.{BeginsBehind, NoneBefore, OffersNext, TakesLists, at_place, event_of}
use Rattle.hg_shards.specs.Sharding.{AnswersShard, GrowsTo, IsPassed, IsReady, PassesOthers, PassesOver, WantsOwnRoom, own_words, page_part, words_of}
use Rattle.hg_cells.specs.contracts.paged.PagedWordsWords.TheImpl as paged
use Rattle.hg_shards.proofs.Growing.{grows_on}
use Rattle.hg_shards.proofs.Batches.{accepted_by}
use Rattle.hg_shards.proofs.Following.{IsUnseen, sees_none, sees_one, sees_passed}
use Rattle.hg_shards.proofs.Passing.{on_small}

-- ---- an access that no word of a part has

divided : (at last w : ℕ) → at ≤ 4 * w + 3 → 4 * w ≤ last → last ≤ at + 63 → (w / 256 ≡ at / 1024 → ⊥) → (w / 256 ≡ last / 1024 → ⊥) → ⊥
divided at last w low high near one other = omega (arith, low, high, near, one, other)

eq_of : (m n : ℕ) → (m == n) ≡ true → m ≡ n
eq_of m n h = eqb-true m n h

module _ (count k : ℕ) (a : Access) (none : touches_part count k a ≡ false) (some : 0 < a.len) (few : a.len ≤ 64) where
  not_first : (page_part count (a.at / 1024) == k) ≡ false
  not_first = (or_parts (page_part count (a.at / 1024) == k) (page_part count ((a.at + (a.len - 1)) / 1024) == k) none).0

  not_last : (page_part count ((a.at + (a.len - 1)) / 1024) == k) ≡ false
  not_last = (or_parts (page_part count (a.at / 1024) == k) (page_part count ((a.at + (a.len - 1)) / 1024) == k) none).1

  apart : (w : ℕ) → words_of count k w ≡ true → overlaps a.at a.len w ≡ true → ⊥
  apart w inside over =
      let parts = and_parts (nat_lt a.at (4 * w + 4)) (nat_lt (4 * w) (a.at + a.len)) over in
      let low = ltb-true a.at (4 * w + 4) parts.0 in
      let high = ltb-true (4 * w) (a.at + a.len) parts.1 in
      divided a.at (a.at + (a.len - 1)) w (omega (arith, low)) (omega (arith, high, some)) (omega (arith, some, few))
      (λ e. false≢true (sym not_first ∙ ap (λ page. page_part count page == k) (sym e) ∙ inside))
      (λ e. false≢true (sym not_last ∙ ap (λ page. page_part count page == k) (sym e) ∙ inside))

  untouched : (x : Touch) (w : ℕ) → words_of count k w ≡ true → (if overlaps a.at a.len w then x else Untouched) ≡ Untouched
  untouched x w inside = by (overlaps a.at a.len w) refl
    where
      by : (b : Bool) → overlaps a.at a.len w ≡ b → (if b then x else Untouched) ≡ Untouched
      by true over = absurd (apart w inside over)
      by false over = refl

lawful_length : (len : ℕ) (more : Bool) → not (((len == 0) || nat_lt 64 len) || more) ≡ true → (0 < len) × (len ≤ 64)
lawful_length len more h =
    let parts = or_parts ((len == 0) || nat_lt 64 len) more (not_true (((len == 0) || nat_lt 64 len) || more) h) in
    let both = or_parts (len == 0) (nat_lt 64 len) parts.0 in
    let some = eqb-false len 0 both.0 in
    (omega (arith, some), ltb-false 64 len both.1)
  where
    not_true : (b : Bool) → not b ≡ true → b ≡ false
    not_true true q = absurd (false≢true q)
    not_true false q = refl

seen_parts : (routed own : Bool) → (not routed || own) ≡ false → (routed ≡ true) × (own ≡ false)
seen_parts true own h = (refl, h)
seen_parts false own h = absurd (false≢true (sym h))

second : (routed own : Bool) → routed ≡ true → (routed && own) ≡ false → own ≡ false
second true own is h = h
second false own is h = absurd (false≢true is)

-- what a part does not see passes its words by
pub unseen_passes : (count k : ℕ) (e : Event) → is_seen count k e ≡ false → PassesBy (words_of count k) e
unseen_passes count k (Read a) h =
    let parts = seen_parts (is_routed (Read a)) (is_own count k (Read a)) h in
    let len = lawful_length a.len (passes_end a.at a.len) parts.0 in
    record { memory = refl; nothing = λ w inside. untouched count k a (second (is_routed (Read a)) (touches_part count k a) parts.0 parts.1) len.0 len.1 (ReadBy a.t) w inside }
unseen_passes count k (Write a) h =
    let parts = seen_parts (is_routed (Write a)) (is_own count k (Write a)) h in
    let len = lawful_length a.len (passes_end a.at a.len) parts.0 in
    record { memory = refl; nothing = λ w inside. untouched count k a (second (is_routed (Write a)) (touches_part count k a) parts.0 parts.1) len.0 len.1 (WrittenBy a.t) w inside }
unseen_passes count k e h = absurd (false≢true (sym h))

-- ---- what comes next

own_seen : (count k : ℕ) (e : Event) → is_own count k e ≡ true → is_routed e ≡ true
own_seen count k (Read a) h = (and_parts (is_routed (Read a)) (touches_part count k a) h).0
own_seen count k (Write a) h = (and_parts (is_routed (Write a)) (touches_part count k a) h).0
own_seen count k e h = absurd (false≢true h)

own_event : (count k place : ℕ) (e : Event) → is_own count k e ≡ true → event_of (own_access place e) ≡ e
own_event count k place (Read a) h = refl
own_event count k place (Write a) h = refl
own_event count k place e h = absurd (false≢true h)

own_place : (place : ℕ) (e : Event) → (own_access place e).place ≡ place
own_place place (Read a) = refl
own_place place (Write a) = refl
own_place place e = refl

unseen : (count k : ℕ) (e : Event) → is_routed e ≡ true → is_own count k e ≡ false → is_seen count k e ≡ false
unseen count k e routed own = (λ i. not (routed i) || own i)

-- The next event that the part sees stands behind so many that it does not see.
pub record Comes (count k p : ℕ) (events : List Event) (place : ℕ) (e : Event) (own : List OwnAccess) (common : List Placed) : Type 0 where
  pub gap : ℕ
  pub at : place ≡ p + gap
  pub rest : List Event
  pub split : drop gap events ≡ e ∷ rest
  pub pass : AllByRecursion (λ x. is_seen count k x ≡ false) (take gap events)
  pub own_is : own ≡ own_from count k (place + 1) rest
  pub common_is : common ≡ common_from (place + 1) rest

module _ (count k : ℕ) where
  first_own : (p : ℕ) (events : List Event) (o : OwnAccess) (own : List OwnAccess) → own_from count k p events ≡ o ∷ own → p ≤ o.place
  first_own p [] o own h = absurd (cc h)
  first_own p (e ∷ events) o own h = by (first_own (p + 1) events o own) (is_own count k e) refl h
    where
      by : (own_from count k (p + 1) events ≡ o ∷ own → p + 1 ≤ o.place) → (b : Bool) → is_own count k e ≡ b → (if b then own_access p e ∷ own_from count k (p + 1) events else own_from count k (p + 1) events) ≡ o ∷ own → p ≤ o.place
      by rest true is q = let same : own_access p e ≡ o = cc q in let at = ap (λ (x : OwnAccess). x.place) same in let here = own_place p e in omega (arith, at, here)
      by rest false is q = let le = rest q in omega (arith, le)

  first_common : (p : ℕ) (events : List Event) (c : Placed) (common : List Placed) → common_from p events ≡ c ∷ common → p ≤ c.place
  first_common p [] c common h = absurd (cc h)
  first_common p (e ∷ events) c common h = by (first_common (p + 1) events c common) (is_routed e) refl h
    where
      by : (common_from (p + 1) events ≡ c ∷ common → p + 1 ≤ c.place) → (b : Bool) → is_routed e ≡ b → (if b then common_from (p + 1) events else (let x : Placed = record { place = p; event = e } in x) ∷ common_from (p + 1) events) ≡ c ∷ common → p ≤ c.place
      by rest true is q = let le = rest q in omega (arith, le)
      by rest false is q = let at = ap (λ (x : Placed). x.place) (placed_is q) in omega (arith, at)
        where
          placed_is : {x y : Placed} {xs ys : List Placed} → ◌≡◌ {A = List Placed} (x ∷ xs) (y ∷ ys) → x ≡ y
          placed_is r = cc r

  later : (p : ℕ) (e : Event) (events : List Event) (place : ℕ) (f : Event) (own : List OwnAccess) (common : List Placed) → is_seen count k e ≡ false → Comes count k (p + 1) events place f own common
      → Comes count k p (e ∷ events) place f own common
  later p e events place f own common not c =
      record {
        gap = suc c.gap;
        at = let at = c.at in omega (arith, at);
        rest = c.rest;
        split = c.split;
        pass = (not, c.pass);
        own_is = c.own_is;
        common_is = c.common_is;
      }

  -- an own access is next
  pub next_own : (p : ℕ) (events : List Event) (o : OwnAccess) (own : List OwnAccess) (common : List Placed) → own_from count k p events ≡ o ∷ own → common ≡ common_from p events → NoneBefore o.place common
      → Comes count k p events o.place (event_of o) own common
  next_own p [] o own common h is none = absurd (cc h)
  next_own p (e ∷ events) o own common h is none = by (λ q r. next_own (p + 1) events o own common q r none) (is_own count k e) (is_routed e) refl refl h is
    where
      by : (own_from count k (p + 1) events ≡ o ∷ own → common ≡ common_from (p + 1) events → Comes count k (p + 1) events o.place (event_of o) own common) → (mine all : Bool) → is_own count k e ≡ mine → is_routed e ≡ all → (if mine then own_access p e ∷ own_from count k (p + 1) events else own_from count k (p + 1) events) ≡ o ∷ own
          → common ≡ (if all then common_from (p + 1) events else (let x : Placed = record { place = p; event = e } in x) ∷ common_from (p + 1) events) → Comes count k p (e ∷ events) o.place (event_of o) own common
      by onward true true is_mine is_all q r =
          let same : own_access p e ≡ o = cc q in
          let rest : own_from count k (p + 1) events ≡ own = cc q in
          let at : o.place ≡ p = sym (ap (λ (x : OwnAccess). x.place) same) ∙ own_place p e in
          record {
            gap = 0;
            at = omega (arith, at);
            rest = events;
            split = ap (λ (x : Event). x ∷ events) (sym (own_event count k p e is_mine) ∙ ap event_of same);
            pass = tt;
            own_is = sym rest ∙ ap (λ n. own_from count k (n + 1) events) (sym at);
            common_is = r ∙ ap (λ n. common_from (n + 1) events) (sym at);
          }
      by onward true false is_mine is_all q r = absurd (false≢true (sym is_all ∙ own_seen count k e is_mine))
      by onward false true is_mine is_all q r = later p e events o.place (event_of o) own common (unseen count k e is_all is_mine) (onward q r)
      by onward false false is_mine is_all q r =
          let before = subst (NoneBefore o.place) r none in
          let behind = first_own (p + 1) events o own q in
          absurd (omega (arith, before, behind))

  -- an event that all parts see is next
  pub next_common : (p : ℕ) (events : List Event) (c : Placed) (own : List OwnAccess) (common : List Placed) → own ≡ own_from count k p events → common_from p events ≡ c ∷ common → BeginsBehind c.place own
      → Comes count k p events c.place c.event own common
  next_common p [] c own common is h behind = absurd (cc h)
  next_common p (e ∷ events) c own common is h behind = by (λ q r. next_common (p + 1) events c own common q r behind) (is_own count k e) (is_routed e) refl refl is h
    where
      placed_is : {x y : Placed} {xs ys : List Placed} → ◌≡◌ {A = List Placed} (x ∷ xs) (y ∷ ys) → (x ≡ y) × (xs ≡ ys)
      placed_is r = (cc r, cc r)

      by : (own ≡ own_from count k (p + 1) events → common_from (p + 1) events ≡ c ∷ common → Comes count k (p + 1) events c.place c.event own common) → (mine all : Bool) → is_own count k e ≡ mine → is_routed e ≡ all → own ≡ (if mine then own_access p e ∷ own_from count k (p + 1) events else own_from count k (p + 1) events)
          → (if all then common_from (p + 1) events else (let x : Placed = record { place = p; event = e } in x) ∷ common_from (p + 1) events) ≡ c ∷ common → Comes count k p (e ∷ events) c.place c.event own common
      by onward true true is_mine is_all q r =
          let le = first_common (p + 1) events c common r in
          let lt = subst (BeginsBehind c.place) q behind in
          let here = own_place p e in
          absurd (omega (arith, le, lt, here))
      by onward true false is_mine is_all q r = absurd (false≢true (sym is_all ∙ own_seen count k e is_mine))
      by onward false true is_mine is_all q r = later p e events c.place c.event own common (unseen count k e is_all is_mine) (onward q r)
      by onward false false is_mine is_all q r =
          let same = (placed_is r).0 in
          let rest = (placed_is r).1 in
          let at : c.place ≡ p = sym (ap (λ (x : Placed). x.place) same) in
          record {
            gap = 0;
            at = omega (arith, at);
            rest = events;
            split = ap (λ (x : Placed). x.event ∷ events) same;
            pass = tt;
            own_is = q ∙ ap (λ n. own_from count k (n + 1) events) (sym at);
            common_is = sym rest ∙ ap (λ n. common_from (n + 1) events) (sym at);
          }

  -- nothing is next
  next_none : (p : ℕ) (events : List Event) → own_from count k p events ≡ [] → common_from p events ≡ [] → AllByRecursion (λ x. is_seen count k x ≡ false) events
  next_none p [] own common = tt
  next_none p (e ∷ events) own common = by (next_none (p + 1) events) (is_own count k e) (is_routed e) refl refl own common
    where
      by : (own_from count k (p + 1) events ≡ [] → common_from (p + 1) events ≡ [] → AllByRecursion (λ x. is_seen count k x ≡ false) events) → (mine all : Bool) → is_own count k e ≡ mine → is_routed e ≡ all → (if mine then own_access p e ∷ own_from count k (p + 1) events else own_from count k (p + 1) events) ≡ []
          → (if all then common_from (p + 1) events else (let x : Placed = record { place = p; event = e } in x) ∷ common_from (p + 1) events) ≡ [] → AllByRecursion (λ x. is_seen count k x ≡ false) (e ∷ events)
      by onward true all is_mine is_all q r = absurd (cc q)
      by onward false true is_mine is_all q r = (unseen count k e is_all is_mine, onward q r)
      by onward false false is_mine is_all q r = absurd (cc r)

-- ---- a batch by places

drop_nil : {X : Type 0} (n : ℕ) → ◌≡◌ {A = List X} (drop n []) []
drop_nil zero = refl
drop_nil (suc n) = refl

drop_drop : {X : Type 0} (g p : ℕ) (xs : List X) → drop g (drop p xs) ≡ drop (p + g) xs
drop_drop g zero xs = ap (λ n. drop n xs) (let e : g ≡ 0 + g = omega arith in e)
drop_drop g (suc p) [] = drop_nil g ∙ sym (drop_nil (suc p + g))
drop_drop g (suc p) (x ∷ xs) = drop_drop g p xs ∙ ap (λ n. drop n (x ∷ xs)) (let e : suc (p + g) ≡ suc p + g = omega arith in e)

not_past : {X : Type 0} (p : ℕ) (xs : List X) (x : X) (rest : List X) → drop p xs ≡ x ∷ rest → p < length xs
not_past zero [] x rest h = absurd (cc h)
not_past zero (y ∷ xs) x rest h = omega arith
not_past (suc p) [] x rest h = absurd (cc h)
not_past (suc p) (y ∷ xs) x rest h = let lt = not_past p xs x rest h in omega (arith, lt)

drop_next : {X : Type 0} (p : ℕ) (xs : List X) (x : X) (rest : List X) → drop p xs ≡ x ∷ rest → drop (p + 1) xs ≡ rest
drop_next zero [] x rest h = absurd (cc h)
drop_next zero (y ∷ xs) x rest h = cc h
drop_next (suc p) [] x rest h = absurd (cc h)
drop_next (suc p) (y ∷ xs) x rest h = ap (λ n. drop n (y ∷ xs)) (let e : suc p + 1 ≡ suc (p + 1) = omega arith in e) ∙ drop_next p xs x rest h

module _ (source : ℕ) where
  named_drop : (p first : ℕ) (events : List Event) → drop p (named source first events) ≡ named source (first + p) (drop p events)
  named_drop zero first events = ap (λ n. named source n events) (let e : first ≡ first + 0 = omega arith in e)
  named_drop (suc p) first [] = refl
  named_drop (suc p) first (x ∷ events) = named_drop p (first + 1) events ∙ ap (λ n. named source n (drop p events)) (let e : first + 1 + p ≡ first + suc p = omega arith in e)

  named_take : (g first : ℕ) (events : List Event) → take g (named source first events) ≡ named source first (take g events)
  named_take zero first events = refl
  named_take (suc g) first [] = refl
  named_take (suc g) first (x ∷ events) = λ i. (let n : Named = record { source = source; number = first; event = x } in n) ∷ named_take g (first + 1) events i

  pub named_length : (first : ℕ) (events : List Event) → length (named source first events) ≡ length events
  named_length first [] = refl
  named_length first (x ∷ events) = let e = named_length (first + 1) events in omega (arith, e)

  named_at : (p first : ℕ) (events : List Event) (e : Event) (rest : List Event) → drop p events ≡ e ∷ rest → slice_get (named source first events) p ≡ Some (record { source = source; number = first + p; event = e })
  named_at zero first [] e rest h = absurd (cc h)
  named_at zero first (x ∷ events) e rest h = λ i. Some (record { source = source; number = (let z : first ≡ first + 0 = omega arith in z) i; event = (one_event h) i })
    where
      one_event : {x y : Event} {xs ys : List Event} → ◌≡◌ {A = List Event} (x ∷ xs) (y ∷ ys) → x ≡ y
      one_event q = cc q
  named_at (suc p) first [] e rest h = absurd (cc h)
  named_at (suc p) first (x ∷ events) e rest h =
      named_at p (first + 1) events e rest h ∙ (λ i. Some (record { source = source; number = (let z : first + 1 + p ≡ first + suc p = omega arith in z) i; event = e }))

  named_each : (old : Shard) (first : ℕ) (events : List Event) → AllByRecursion (λ x. is_seen old.count old.part x ≡ false) events
      → AllByRecursion (λ (n : Named). IsPassed (own_words old) source n × (is_seen old.count old.part n.event ≡ false)) (named source first events)
  named_each old first [] h = tt
  named_each old first (x ∷ events) h =
      ((record { source_is = refl; by = unseen_passes old.count old.part x h.0 }, h.0), named_each old (first + 1) events h.1)

-- ---- a shard on its way through the lists of its part

pub record IsUnderWay (old : Shard) (source first : ℕ) (events : List Event) (next : ℕ) (mine : List OwnAccess) (all : List Placed) (s : Shard) : Type 0 where
  pub within : next ≤ length events
  pub mine_is : mine ≡ own_from old.count old.part next (drop next events)
  pub all_is : all ≡ common_from next (drop next events)
  pub sees : SeesUpto old (named source first events) (is_seen old.count old.part) next s

pub begins_way : (old : Shard) (source first : ℕ) (events : List Event) (mine : List OwnAccess) (all : List Placed) → IsReady old → mine ≡ own_from old.count old.part 0 events → all ≡ common_from 0 events
    → IsUnderWay old source first events 0 mine all old
begins_way old source first events mine all ready own common =
    record { within = omega arith; mine_is = own; all_is = common; sees = sees_none old (named source first events) (is_seen old.count old.part) ready }

module _ (old : Shard) (source first : ℕ) (events : List Event) (fits : first + length events ≤ 2 ^ 64) (next : ℕ) (mine : List OwnAccess) (all : List Placed) (s : Shard)
    (w : IsUnderWay old source first events next mine all s) where
  abbrev batch : List Named
  batch = named source first events

  abbrev sees : Event → Bool
  sees = is_seen old.count old.part

  over_gap : (gap : ℕ) (new : Shard) → PassesOver s source gap new → next + gap ≤ length events → AllByRecursion (λ x. sees x ≡ false) (take gap (drop next events)) → SeesUpto old batch sees (next + gap) new
  over_gap gap new over few pass =
      sees_passed old batch sees next s w.sees source gap new over (let len = named_length source first events in omega (arith, len, few))
      (subst (λ (xs : List Named). AllByRecursion (IsUnseen old batch sees source) xs) (sym (ap (take gap) (named_drop source next first events) ∙ named_take source gap (first + next) (drop next events)))
      (named_each source old (first + next) (take gap (drop next events)) pass))

  module _ (place : ℕ) (e : Event) (mine' : List OwnAccess) (all' : List Placed) (c : Comes old.count old.part next (drop next events) place e mine' all') (new : Shard) where
    there : drop place events ≡ e ∷ c.rest
    there = ap (λ n. drop n events) c.at ∙ sym (drop_drop c.gap next events) ∙ c.split

    below : place < length events
    below = not_past place events e c.rest there

    is_named : slice_get batch place ≡ Some (at_place source first place e)
    is_named =
        named_at source place first events e c.rest there
        ∙ (λ i. Some (record { source = source; number = sym (on_small first place (let lt = below in omega (arith, lt, fits))) i; event = e }))

    module _ (cause : Option Cause) (o : OffersNext s source (place - next) (at_place source first place e) cause new) where
      reached : SeesUpto old batch sees place o.between
      reached =
          subst (λ (n : ℕ). SeesUpto old batch sees n o.between) (sym c.at)
          (over_gap c.gap o.between (subst (λ (n : ℕ). PassesOver s source n o.between) (let at = c.at in let z : place - next ≡ c.gap = omega (arith, at) in z) o.over)
          (let lt = below in let at = c.at in omega (arith, lt, at)) c.pass)

      pub went_on : cause ≡ None → IsUnderWay old source first events (place + 1) mine' all' new
      went_on none =
          record {
            within = let lt = below in omega (arith, lt);
            mine_is = c.own_is ∙ ap (own_from old.count old.part (place + 1)) (sym (drop_next place events e c.rest there));
            all_is = c.common_is ∙ ap (common_from (place + 1)) (sym (drop_next place events e c.rest there));
            sees = sees_one old batch sees place o.between reached (at_place source first place e) o.answer new is_named
                (accepted_by o.answer (λ cause is. some_none (sym is ∙ sym o.cause_is ∙ none))) o.answers;
          }
        where
          some_none : {x : Cause} → ◌≡◌ {A = Option Cause} (Some x) None → ⊥
          some_none q = absurd (cc q)

      pub stopped_there : (why : Cause) → cause ≡ Some why → TakesSeen old batch sees (Some (record { place = place; cause = why })) new
      stopped_there why is =
          record {
            between = o.between;
            took = reached;
            stops = (
              at_place source first place e,
              is_named,
              record { answer = o.answer; cause_is = sym o.cause_is ∙ is; answers = o.answers; passes = o.passes; grows = o.grows },
            );
          }

  -- the rest is passed over
  pub ended : (new : Shard) → mine ≡ [] → all ≡ [] → PassesOver s source (length events - next) new → TakesSeen old batch sees None new
  ended new no_own no_common over =
      record {
        between = new;
        took =
            subst (λ (n : ℕ). SeesUpto old batch sees n new) (let le = w.within in let len = named_length source first events in let z : next + (length events - next) ≡ length batch = omega (arith, le, len) in z)
            (over_gap (length events - next) new over (let le = w.within in omega (arith, le))
            (subst (AllByRecursion (λ x. sees x ≡ false)) (sym (whole_take (length events - next) (drop next events) (length_rest next events)))
            (next_none old.count old.part next (drop next events) (sym w.mine_is ∙ no_own) (sym w.all_is ∙ no_common))));
        stops = refl;
      }
    where
      length_rest : (p : ℕ) (xs : List Event) → length xs - p ≡ length (drop p xs)
      length_rest zero xs = omega arith
      length_rest (suc p) [] = omega arith
      length_rest (suc p) (x ∷ xs) = let e = length_rest p xs in omega (arith, e)

      whole_take : (n : ℕ) (xs : List Event) → n ≡ length xs → take n xs ≡ xs
      whole_take n xs is = ap (λ m. take m xs) is ∙ take-length xs

-- ---- what is offered next

capped : (n m : ℕ) → min (n + m) 18446744073709551615 ≡ counted_on n m
capped n m = by (nat_lt (n + m) (2 ^ 64)) refl
  where
    by : (b : Bool) → nat_lt (n + m) (2 ^ 64) ≡ b → min (n + m) 18446744073709551615 ≡ (if b then n + m else 2 ^ 64 - 1)
    by true is = let lt = ltb-true (n + m) (2 ^ 64) is in omega (arith, lt)
    by false is = let le = ltb-false (n + m) (2 ^ 64) is in omega (arith, le)

pub offers_next : (old between new : Shard) (source first gap place g p number : ℕ) (e : Event) (answer : Result Answer Refusal) (cause : Option Cause) → g ≡ gap → p ≡ place → number ≡ min (first + p) 18446744073709551615
    → PassesOver old source g between → cause ≡ cause_of answer → AnswersShard between (record { source = source; number = number; event = e }) answer new
    → PassesOthers between (record { source = source; number = number; event = e }) answer → WantsOwnRoom paged.ghosts between (record { source = source; number = number; event = e }) answer
    → OffersNext old source gap (at_place source first place e) cause new
offers_next old between new source first gap place g p number e answer cause is_gap is_place is_number over told answers passes grows =
    let n : number ≡ counted_on first place = is_number ∙ capped first p ∙ ap (counted_on first) is_place in
    record {
      between = between;
      over = subst (λ (x : ℕ). PassesOver old source x between) is_gap over;
      answer = answer;
      cause_is = told;
      answers = subst (λ (x : ℕ). AnswersShard between (record { source = source; number = x; event = e }) answer new) n answers;
      passes = subst (λ (x : ℕ). PassesOthers between (record { source = source; number = x; event = e }) answer) n passes;
      grows = subst (λ (x : ℕ). WantsOwnRoom paged.ghosts between (record { source = source; number = x; event = e }) answer) n grows;
    }

pub first_of : {X : Type 0} (xs : List X) (d : X) → (length xs ≡ 0 → ⊥) → (rest : List X) × (xs ≡ get_or xs 0 d ∷ rest)
first_of [] d some = absurd (some refl)
first_of (x ∷ xs) d some = (xs, refl)

pub none_of : {X : Type 0} (xs : List X) → length xs ≡ 0 → xs ≡ []
none_of [] none = refl
none_of (x ∷ xs) none = absurd (omega (arith, none))

pub begins_behind : (place : ℕ) (own : List OwnAccess) → length own ≡ 0 → BeginsBehind place own
begins_behind place [] none = tt
begins_behind place (o ∷ own) none = absurd (omega (arith, none))

pub none_before : (place : ℕ) (common : List Placed) → length common ≡ 0 → NoneBefore place common
none_before place [] none = tt
none_before place (c ∷ common) none = absurd (omega (arith, none))

-- ---- the loop over the lists

rest_of : {X : Type 0} (x : X) (xs ys : List X) → ys ≡ x ∷ xs → take (length ys - 1) (drop 1 ys) ≡ xs
rest_of x xs ys is = ap (λ zs. take (length zs - 1) (drop 1 zs)) is ∙ ap (λ n. take n xs) (let e : suc (length xs) - 1 ≡ length xs = omega arith in e) ∙ take-length xs

rest_on : (old s new : Shard) (source gap : ℕ) (n : Named) (cause : Option Cause) → s ≡ record old { detector = s.detector; log = s.log } → OffersNext s source gap n cause new
    → new ≡ record old { detector = new.detector; log = new.log }
rest_on old s new source gap n cause is o =
    o.answers.rest ∙ ap (λ (x : Shard). record x { detector = new.detector; log = new.log }) (o.over.rest ∙ ap (λ (x : Shard). record x { detector = o.between.detector }) is)

pub none_if : (x : Option Cause) → ((cause : Cause) → x ≡ Some cause → ⊥) → x ≡ None
none_if None h = refl
none_if (Some cause) h = absurd (h cause refl)

module _ (old : Shard) (source first : ℕ) (own : List OwnAccess) (common : List Placed) (count : ℕ) (few : count < 2 ^ 32) where
  -- what the loop keeps
  abbrev pub Holds : ℕ → List OwnAccess → List Placed → Shard → Type 0
  Holds next mine all s =
      (s ≡ record old { detector = s.detector; log = s.log })
      × IsReady s
      × ((events : List Event) → own ≡ own_from old.count old.part 0 events → common ≡ common_from 0 events → count ≡ length events → first + length events ≤ 2 ^ 64
      → IsUnderWay old source first events next mine all s)
      × GrowsTo old s

  -- it grew by what was passed over, and by the event that was offered
  grew : (s new : Shard) (gap : ℕ) (n : Named) (cause : Option Cause) → GrowsTo old s → OffersNext s source gap n cause new → GrowsTo old new
  grew s new gap n cause g o = grows_on old o.between new (grows_on old s o.between g o.over.moves.grows) o.answers.moves.grows

  module _ (next : ℕ) (mine : List OwnAccess) (all : List Placed) (s : Shard) (h : Holds next mine all s) (gap next' : ℕ) (cause : Option Cause) (new : Shard) where
    module _ (o : OwnAccess) (rest : List OwnAccess) (is : mine ≡ o ∷ rest) (none : NoneBefore o.place all) (is_gap : gap ≡ o.place - next)
        (given : OffersNext s source gap (at_place source first o.place (event_of o)) cause new) where
      given_own : OffersNext s source (o.place - next) (at_place source first o.place (event_of o)) cause new
      given_own = subst (λ (n : ℕ). OffersNext s source n (at_place source first o.place (event_of o)) cause new) is_gap given

      pub seen_own : (mine' : List OwnAccess) → cause ≡ None → next' ≡ min (o.place + 1) 4294967295 → mine' ≡ take (length mine - 1) (drop 1 mine) → Holds next' mine' all new
      seen_own mine' go next_is mine_is = (
        rest_on old s new source gap _ cause h.0 given,
        given.answers.ready,
        λ events a b m f.
            let w = h.2 events a b m f in
            let c = next_own old.count old.part next (drop next events) o rest all (sym w.mine_is ∙ is) w.all_is none in
            let lt = below old source first events f next mine all s w o.place (event_of o) rest all c new in
            subst (λ (n : ℕ). IsUnderWay old source first events n mine' all new) (let z : o.place + 1 ≡ next' = omega (arith, next_is, lt, m, few) in z)
            (subst (λ (xs : List OwnAccess). IsUnderWay old source first events (o.place + 1) xs all new) (sym (mine_is ∙ rest_of o rest mine is))
            (went_on old source first events f next mine all s w o.place (event_of o) rest all c new cause given_own go)),
        grew s new gap _ cause h.3 given,
      )

      pub stop_own : (why : Cause) → cause ≡ Some why → TakesLists old source first own common count (Some (record { place = o.place; cause = why })) new
      stop_own why told =
          record {
            rest = rest_on old s new source gap _ cause h.0 given;
            ready = given.answers.ready;
            grows = grew s new gap _ cause h.3 given;
            takes = λ events a b m f.
                let w = h.2 events a b m f in
                let c = next_own old.count old.part next (drop next events) o rest all (sym w.mine_is ∙ is) w.all_is none in
                stopped_there old source first events f next mine all s w o.place (event_of o) rest all c new cause given_own why told;
          }

    module _ (o : Placed) (rest : List Placed) (is : all ≡ o ∷ rest) (behind : BeginsBehind o.place mine) (is_gap : gap ≡ o.place - next)
        (given : OffersNext s source gap (at_place source first o.place o.event) cause new) where
      given_common : OffersNext s source (o.place - next) (at_place source first o.place o.event) cause new
      given_common = subst (λ (n : ℕ). OffersNext s source n (at_place source first o.place o.event) cause new) is_gap given

      pub seen_common : (all' : List Placed) → cause ≡ None → next' ≡ min (o.place + 1) 4294967295 → all' ≡ take (length all - 1) (drop 1 all) → Holds next' mine all' new
      seen_common all' go next_is all_is = (
        rest_on old s new source gap _ cause h.0 given,
        given.answers.ready,
        λ events a b m f.
            let w = h.2 events a b m f in
            let c = next_common old.count old.part next (drop next events) o mine rest w.mine_is (sym w.all_is ∙ is) behind in
            let lt = below old source first events f next mine all s w o.place o.event mine rest c new in
            subst (λ (n : ℕ). IsUnderWay old source first events n mine all' new) (let z : o.place + 1 ≡ next' = omega (arith, next_is, lt, m, few) in z)
            (subst (λ (xs : List Placed). IsUnderWay old source first events (o.place + 1) mine xs new) (sym (all_is ∙ rest_of o rest all is))
            (went_on old source first events f next mine all s w o.place o.event mine rest c new cause given_common go)),
        grew s new gap _ cause h.3 given,
      )

      pub stop_common : (why : Cause) → cause ≡ Some why → TakesLists old source first own common count (Some (record { place = o.place; cause = why })) new
      stop_common why told =
          record {
            rest = rest_on old s new source gap _ cause h.0 given;
            ready = given.answers.ready;
            grows = grew s new gap _ cause h.3 given;
            takes = λ events a b m f.
                let w = h.2 events a b m f in
                let c = next_common old.count old.part next (drop next events) o mine rest w.mine_is (sym w.all_is ∙ is) behind in
                stopped_there old source first events f next mine all s w o.place o.event mine rest c new cause given_common why told;
          }

    pub end_lists : mine ≡ [] → all ≡ [] → gap ≡ count - next → PassesOver s source gap new → TakesLists old source first own common count None new
    end_lists no_own no_common is_gap over =
        record {
          rest = over.rest ∙ ap (λ (x : Shard). record x { detector = new.detector }) h.0 ∙ ap (λ (l : Log). record old { detector = new.detector; log = l }) (sym (ap (λ (x : Shard). x.log) over.rest));
          ready = over.ready;
          grows = grows_on old s new h.3 over.moves.grows;
          takes = λ events a b m f.
              ended old source first events f next mine all s (h.2 events a b m f) new no_own no_common
              (subst (λ (n : ℕ). PassesOver s source n new) (is_gap ∙ ap (λ n. n - next) m) over);
        }
