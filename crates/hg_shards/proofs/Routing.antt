-- Events in the lists of the parts.
use Rattle.std.proofs.Common.{◌≡◌, ⊎_elim, ℕ, zero, suc, ◌+◌, ◌-◌, ◌/◌, ◌<◌, ◌≤◌, nat_lt, Bool, true, false, not, ◌&&◌, ◌||◌, List, [], ◌∷◌, ◌++◌, length, map, set, get_or, replicate, refl, sym, ap, ◌∙◌, subst, arith, append-nil, eqb-true, length-set, slice_get, Vec, vec_capacity}
use Rattle.std.proofs.lemmas.Bool.{false≢true, cases_lt, eq-eqb, ltb-false, ltb-true, ne_eqb}
use Rattle.std.proofs.lemmas.Grind.{get_or-set_at}
use Rattle.std.proofs.lemmas.Option.{get_or_from_slice_get, slice_get-get_or}
use Rattle.std.proofs.lemmas.List.{get_or-set_other, get_or-map, length-map, length-replicate, length_push, map-set}
use Rattle.std.proofs.lemmas.List.FromFn.{get_or-map-range_with_len}
use Rattle.std.specs.List.{range_with_len}
use Rattle.std.specs.Prelude.{◌==◌, if◌then◌else◌}
use Rattle.hg_model.specs.declared.event.Event.{Event}
use Rattle.hg_model.specs.declared.event.Event.TheVariants.{Read, Write}
use Rattle.hg_model.specs.declared.event.Access.{Access}
use Rattle.hg_model.specs.Accessing.{access_event}
use Rattle.hg_shards.specs.declared.routes.OwnAccess.{OwnAccess}
use Rattle.hg_shards.specs.declared.routes.Placed.{Placed}
use Rattle.hg_shards.specs.declared.routes.Routes.{Routes}
use Rattle.hg_shards.specs.Pushing.{IsRouted, Pushes, lists_of, parts_in}
use Rattle.hg_shards.specs.Routing.{HasRoomAt, common_from, is_own, is_routed, items_of, own_access, own_from, own_lists, rooms_of, touches_part, with_own}
use Rattle.hg_shards.specs.Sharding.{page_part}

-- ---- lists of numbers

map_same : {X : Type 0} (f h : ℕ → X) (b n : ℕ) → ((j : ℕ) → b ≤ j → f j ≡ h j) → map f (range_with_len b n) ≡ map h (range_with_len b n)
map_same f h b zero same = refl
map_same f h b (suc n) same = λ i. same b (omega arith) i ∷ map_same f h (b + 1) n (λ j le. same j (omega (arith, le))) i

-- what number a + k has is changed
set_one : {X : Type 0} (f h : ℕ → X) (a n k : ℕ) (y : X) → k < n → y ≡ h (a + k) → ((j : ℕ) → (j ≡ a + k → ⊥) → f j ≡ h j) → set (map f (range_with_len a n)) k y ≡ map h (range_with_len a n)
set_one f h a zero k y lt is same = absurd (omega (arith, lt))
set_one f h a (suc n) zero y lt is same =
    λ i. (is ∙ ap h (let e : a + 0 ≡ a = omega arith in e)) i ∷ map_same f h (a + 1) n (λ j le. same j (λ e. absurd (omega (arith, le, e)))) i
set_one f h a (suc n) (suc k) y lt is same =
    λ i. same a (λ e. absurd (omega (arith, e))) i
    ∷ set_one f h (a + 1) n k y (omega (arith, lt)) (is ∙ ap h (let e : a + suc k ≡ (a + 1) + k = omega arith in e))
    (λ j not. same j (λ e. not (let f2 : j ≡ (a + 1) + k = omega (arith, e) in f2))) i

set_zero : {X : Type 0} (f h : ℕ → X) (n k : ℕ) (y : X) → k < n → y ≡ h k → ((j : ℕ) → (j ≡ k → ⊥) → f j ≡ h j) → set (map f (range_with_len 0 n)) k y ≡ map h (range_with_len 0 n)
set_zero f h n k y lt is same =
    let z : k ≡ 0 + k = omega arith in
    set_one f h 0 n k y lt (is ∙ ap h z) (λ j not. same j (λ e. not (e ∙ z)))

pub none_own : (a n : ℕ) (count : ℕ) → replicate n [] ≡ map (λ k. own_from count k 0 []) (range_with_len a n)
none_own a zero count = refl
none_own a (suc n) count = ap (λ (ls : List (List OwnAccess)). [] ∷ ls) (none_own (a + 1) n count)

-- ---- one event more

own_more : (count k place : ℕ) (events : List Event) (e : Event)
    → own_from count k place (events ++ e ∷ []) ≡ own_from count k place events ++ (if is_own count k e then own_access (place + length events) e ∷ [] else [])
own_more count k place [] e = ap (λ n. if is_own count k e then own_access n e ∷ [] else []) (let z : place ≡ place + 0 = omega arith in z)
own_more count k place (x ∷ events) e =
    let rest = own_more count k (place + 1) events e ∙ ap (λ n. own_from count k (place + 1) events ++ (if is_own count k e then own_access n e ∷ [] else [])) (let z : place + 1 + length events ≡ place + suc (length events) = omega arith in z) in
    elim (is_own count k x) as (λ b. (if b then own_access place x ∷ own_from count k (place + 1) (events ++ e ∷ []) else own_from count k (place + 1) (events ++ e ∷ []))
    ≡ (if b then own_access place x ∷ own_from count k (place + 1) events else own_from count k (place + 1) events) ++ (if is_own count k e then own_access (place + suc (length events)) e ∷ [] else [])) [
      | true ↦ ap (λ (items : List OwnAccess). own_access place x ∷ items) rest
      | false ↦ rest
    ]

common_more : (place : ℕ) (events : List Event) (e : Event)
    → common_from place (events ++ e ∷ []) ≡ common_from place events ++ (if is_routed e then [] else record { place = place + length events; event = e } ∷ [])
common_more place [] e = ap (λ n. if is_routed e then [] else (let p : Placed = record { place = n; event = e } in p) ∷ []) (let z : place ≡ place + 0 = omega arith in z)
common_more place (x ∷ events) e =
    let rest = common_more (place + 1) events e ∙ ap (λ n. common_from (place + 1) events ++ (if is_routed e then [] else (let p : Placed = record { place = n; event = e } in p) ∷ [])) (let z : place + 1 + length events ≡ place + suc (length events) = omega arith in z) in
    elim (is_routed x) as (λ b. (if b then common_from (place + 1) (events ++ e ∷ []) else (let p : Placed = record { place = place; event = x } in p) ∷ common_from (place + 1) (events ++ e ∷ []))
    ≡ (if b then common_from (place + 1) events else (let p : Placed = record { place = place; event = x } in p) ∷ common_from (place + 1) events) ++ (if is_routed e then [] else (let p : Placed = record { place = place + suc (length events); event = e } in p) ∷ [])) [
      | true ↦ rest
      | false ↦ ap (λ (items : List Placed). (let p : Placed = record { place = place; event = x } in p) ∷ items) rest
    ]

-- an event that all parts see is in no list of a part
own_is_routed : (count k : ℕ) (e : Event) → is_routed e ≡ false → is_own count k e ≡ false
own_is_routed count k (Read a) h = ap (λ b. b && touches_part count k a) h
own_is_routed count k (Write a) h = ap (λ b. b && touches_part count k a) h
own_is_routed count k e h = refl

module _ (count : ℕ) (events : List Event) (e : Event) where
  abbrev item : OwnAccess
  item = own_access (length events) e

  abbrev before : ℕ → List OwnAccess
  before k = own_from count k 0 events

  abbrev behind : ℕ → List OwnAccess
  behind k = own_from count k 0 (events ++ e ∷ [])

  last_place : 0 + length events ≡ length events
  last_place = omega arith

  own_end : (k : ℕ) → behind k ≡ before k ++ (if is_own count k e then item ∷ [] else [])
  own_end k = own_more count k 0 events e ∙ ap (λ n. before k ++ (if is_own count k e then own_access n e ∷ [] else [])) last_place

  common_end : common_from 0 (events ++ e ∷ []) ≡ common_from 0 events ++ (if is_routed e then [] else (let p : Placed = record { place = length events; event = e } in p) ∷ [])
  common_end = common_more 0 events e ∙ ap (λ n. common_from 0 events ++ (if is_routed e then [] else (let p : Placed = record { place = n; event = e } in p) ∷ [])) last_place

  behind_own : (k : ℕ) → is_own count k e ≡ true → behind k ≡ before k ++ item ∷ []
  behind_own k is = own_end k ∙ ap (λ b. before k ++ (if b then item ∷ [] else [])) is

  behind_other : (k : ℕ) → is_own count k e ≡ false → before k ≡ behind k
  behind_other k is = sym (own_end k ∙ ap (λ b. before k ++ (if b then item ∷ [] else [])) is ∙ append-nil (before k))

  pub lists_stay : is_routed e ≡ false → own_lists count events ≡ own_lists count (events ++ e ∷ [])
  lists_stay all = map_same before behind 0 count (λ k le. behind_other k (own_is_routed count k e all))

  own_at : (k : ℕ) → k < count → get_or (own_lists count events) k [] ≡ before k
  own_at k lt = get_or-map-range_with_len before 0 count k k [] lt (omega arith)

  -- one part has it
  pub one_put : (k : ℕ) → k < count → is_own count k e ≡ true → ((j : ℕ) → (j ≡ k → ⊥) → is_own count j e ≡ false) → with_own (own_lists count events) k item ≡ own_lists count (events ++ e ∷ [])
  one_put k lt is others =
      set_zero before behind count k (get_or (own_lists count events) k [] ++ item ∷ []) lt
      (ap (λ (xs : List OwnAccess). xs ++ item ∷ []) (own_at k lt) ∙ sym (behind_own k is)) (λ j not. behind_other j (others j not))

  -- two parts have it
  abbrev between : ℕ → ℕ → List OwnAccess
  between k j = if j == k then before j ++ item ∷ [] else before j

  between_at : (k j : ℕ) → j ≡ k → between k j ≡ before j ++ item ∷ []
  between_at k j is = ap (λ b. if b then before j ++ item ∷ [] else before j) (eq-eqb j k is)

  between_other : (k j : ℕ) → (j ≡ k → ⊥) → between k j ≡ before j
  between_other k j not = ap (λ b. if b then before j ++ item ∷ [] else before j) (ne_eqb j k not)

  between_behind : (k j : ℕ) → is_own count k e ≡ true → ((j ≡ k → ⊥) → is_own count j e ≡ false) → between k j ≡ behind j
  between_behind k j is other = by (j == k) refl
    where
      by : (b : Bool) → (j == k) ≡ b → (if b then before j ++ item ∷ [] else before j) ≡ behind j
      by true same = sym (behind_own j (subst (λ (n : ℕ). is_own count n e ≡ true) (sym (eqb-true j k same)) is))
      by false differs = behind_other j (other (λ same. false≢true (sym differs ∙ eq-eqb j k same)))

  pub two_put : (k m : ℕ) → k < count → m < count → (m ≡ k → ⊥) → is_own count k e ≡ true → is_own count m e ≡ true → ((j : ℕ) → (j ≡ k → ⊥) → (j ≡ m → ⊥) → is_own count j e ≡ false)
      → with_own (with_own (own_lists count events) k item) m item ≡ own_lists count (events ++ e ∷ [])
  two_put k m below under apart is also others =
      ap (λ (ls : List (List OwnAccess)). with_own ls m item)
      (set_zero before (between k) count k (get_or (own_lists count events) k [] ++ item ∷ []) below
      (ap (λ (xs : List OwnAccess). xs ++ item ∷ []) (own_at k below) ∙ sym (between_at k k refl)) (λ j not. sym (between_other k j not)))
      ∙ set_zero (between k) behind count m (get_or (map (between k) (range_with_len 0 count)) m [] ++ item ∷ []) under
      (ap (λ (xs : List OwnAccess). xs ++ item ∷ []) (get_or-map-range_with_len (between k) 0 count m m [] under (omega arith) ∙ between_other k m apart) ∙ sym (behind_own m also))
      (λ j not. between_behind k j is (λ other. others j other not))

  pub common_stays : is_routed e ≡ true → common_from 0 events ≡ common_from 0 (events ++ e ∷ [])
  common_stays one = sym (common_end ∙ ap (λ b. common_from 0 events ++ (if b then [] else (let p : Placed = record { place = length events; event = e } in p) ∷ [])) one ∙ append-nil (common_from 0 events))

  pub common_put : is_routed e ≡ false → common_from 0 events ++ record { place = length events; event = e } ∷ [] ≡ common_from 0 (events ++ e ∷ [])
  common_put all = sym (common_end ∙ ap (λ b. common_from 0 events ++ (if b then [] else (let p : Placed = record { place = length events; event = e } in p) ∷ [])) all)

-- ---- routes

-- all parts see the event
pub pushed_common : (old new : Routes) (e : Event) → is_routed e ≡ false → new.lists ≡ old.lists → new.common.items ≡ old.common.items ++ record { place = old.count; event = e } ∷ [] → new.count ≡ old.count + 1
    → Pushes old e true new
pushed_common old new e all lists common count = (
  ap (λ ls. length ls.items) lists,
  λ events h.
      record {
        count = let is = h.count in let more = length_push events e in omega (arith, count, is, more);
        common = common ∙ (λ i. h.common i ++ record { place = h.count i; event = e } ∷ []) ∙ common_put (parts_in old) events e all;
        own = ap (λ ls. items_of ls.items) lists ∙ h.own ∙ lists_stay (parts_in old) events e all ∙ ap (λ ls. own_lists (length ls.items) (events ++ e ∷ [])) (sym lists);
      },
)

same_parts : (old new : Routes) (k : ℕ) (x : OwnAccess) → lists_of new ≡ with_own (lists_of old) k x → parts_in new ≡ parts_in old
same_parts old new k x is =
    sym (length-map new.lists.items (λ list. list.items)) ∙ ap (λ (ls : List (List OwnAccess)). length ls) is ∙ length-set (lists_of old) k _ ∙ length-map old.lists.items (λ list. list.items)

-- one part has the access
pub pushed_one : (old new : Routes) (e : Event) (k : ℕ) → is_routed e ≡ true → k < parts_in old → is_own (parts_in old) k e ≡ true → ((j : ℕ) → (j ≡ k → ⊥) → is_own (parts_in old) j e ≡ false)
    → (item : OwnAccess) → item ≡ own_access old.count e → lists_of new ≡ with_own (lists_of old) k item → new.common ≡ old.common → new.count ≡ old.count + 1 → Pushes old e true new
pushed_one old new e k one below is others item it lists common count = (
  same_parts old new k item lists,
  λ events h.
      record {
        count = let n = h.count in let more = length_push events e in omega (arith, count, n, more);
        common = ap (λ c. c.items) common ∙ h.common ∙ common_stays (parts_in old) events e one;
        own =
            lists ∙ (λ i. with_own (h.own i) k ((it ∙ ap (λ n. own_access n e) h.count) i)) ∙ one_put (parts_in old) events e k below is others
            ∙ ap (λ n. own_lists n (events ++ e ∷ [])) (sym (same_parts old new k item lists));
      },
)

-- two parts have it
pub pushed_two : (old new : Routes) (e : Event) (k m : ℕ) → is_routed e ≡ true → k < parts_in old → m < parts_in old → (m ≡ k → ⊥) → is_own (parts_in old) k e ≡ true → is_own (parts_in old) m e ≡ true
    → ((j : ℕ) → (j ≡ k → ⊥) → (j ≡ m → ⊥) → is_own (parts_in old) j e ≡ false)
    → (item : OwnAccess) → item ≡ own_access old.count e → lists_of new ≡ with_own (with_own (lists_of old) k item) m item → new.common ≡ old.common → new.count ≡ old.count + 1 → Pushes old e true new
pushed_two old new e k m one below under apart is also others item it lists common count = (
  many,
  λ events h.
      record {
        count = let n = h.count in let more = length_push events e in omega (arith, count, n, more);
        common = ap (λ c. c.items) common ∙ h.common ∙ common_stays (parts_in old) events e one;
        own =
            lists ∙ (λ i. with_own (with_own (h.own i) k ((it ∙ ap (λ n. own_access n e) h.count) i)) m ((it ∙ ap (λ n. own_access n e) h.count) i))
            ∙ two_put (parts_in old) events e k m below under apart is also others
            ∙ ap (λ n. own_lists n (events ++ e ∷ [])) (sym many);
      },
)
  where
    many : parts_in new ≡ parts_in old
    many =
        sym (length-map new.lists.items (λ list. list.items)) ∙ ap (λ (ls : List (List OwnAccess)). length ls) lists ∙ length-set (with_own (lists_of old) k item) m _
        ∙ length-set (lists_of old) k _ ∙ length-map old.lists.items (λ list. list.items)

-- ---- the parts of an access

own_is : (count k : ℕ) (write : Bool) (a : Access) → is_routed (access_event write a) ≡ true → is_own count k (access_event write a) ≡ touches_part count k a
own_is count k true a h = ap (λ b. b && touches_part count k a) h
own_is count k false a h = ap (λ b. b && touches_part count k a) h

pub access_item : (place : ℕ) (write : Bool) (a : Access) → own_access place (access_event write a) ≡ record { at = a.at; place = place; t = a.t; len = a.len; write = write }
access_item place true a = refl
access_item place false a = refl

module _ (count : ℕ) (write : Bool) (a : Access) (first last : ℕ) (routed : is_routed (access_event write a) ≡ true) (at_first : first ≡ page_part count (a.at / 1024))
    (at_last : last ≡ page_part count ((a.at + (a.len - 1)) / 1024)) where
  pub first_own : is_own count first (access_event write a) ≡ true
  first_own = own_is count first write a routed ∙ ap (λ b. b || (page_part count ((a.at + (a.len - 1)) / 1024) == first)) (eq-eqb _ first (sym at_first))

  pub last_own : is_own count last (access_event write a) ≡ true
  last_own = own_is count last write a routed ∙ by (page_part count (a.at / 1024) == last)
    where
      by : (b : Bool) → (b || (page_part count ((a.at + (a.len - 1)) / 1024) == last)) ≡ true
      by true = refl
      by false = eq-eqb _ last (sym at_last)

  pub others_own : (j : ℕ) → (j ≡ first → ⊥) → (j ≡ last → ⊥) → is_own count j (access_event write a) ≡ false
  others_own j apart beside =
      own_is count j write a routed
      ∙ (λ i. ne_eqb (page_part count (a.at / 1024)) j (λ same. apart (sym same ∙ sym at_first)) i || ne_eqb (page_part count ((a.at + (a.len - 1)) / 1024)) j (λ same. beside (sym same ∙ sym at_last)) i)

-- ---- the vectors of the parts

pub apart_in_set : {X : Type 0} (xs : List X) (k i : ℕ) (v : X) → (k ≡ i → ⊥) → slice_get (set xs i v) k ≡ slice_get xs k
apart_in_set [] k i v differ = refl
apart_in_set (x ∷ xs) zero zero v differ = absurd (differ refl)
apart_in_set (x ∷ xs) zero (suc i) v differ = refl
apart_in_set (x ∷ xs) (suc k) zero v differ = refl
apart_in_set (x ∷ xs) (suc k) (suc i) v differ = apart_in_set xs k i v (λ e. differ (ap suc e))

rooms_same : {Z : Type 0} (xs : List (Vec OwnAccess Z)) (k : ℕ) (d v : Vec OwnAccess Z) → vec_capacity v ≡ vec_capacity (get_or xs k d) → rooms_of (set xs k v) ≡ rooms_of xs
rooms_same [] k d v same = refl
rooms_same (x ∷ xs) zero d v same = ap (λ (n : ℕ). n ∷ rooms_of xs) same
rooms_same (x ∷ xs) (suc k) d v same = ap (λ (ns : List ℕ). vec_capacity x ∷ ns) (rooms_same xs k d v same)

module _ {Z : Type 0} (xs : List (Vec OwnAccess Z)) (k : ℕ) (d : Vec OwnAccess Z) (is : d ≡ get_or xs k d) where
  pub puts_one : (v : Vec OwnAccess Z) (item : OwnAccess) → k < length xs → v.items ≡ d.items ++ item ∷ [] → items_of (set xs k v) ≡ with_own (items_of xs) k item
  puts_one v item lt more =
      map-set (λ list. list.items) xs k v
      ∙ ap (λ (new : List OwnAccess). set (items_of xs) k new)
      (more ∙ ap (λ (old : List OwnAccess). old ++ item ∷ []) (ap (λ list. list.items) is ∙ sym (get_or-map (λ list. list.items) xs k d [] lt)))

  pub keeps_rooms : (v : Vec OwnAccess Z) → vec_capacity v ≡ vec_capacity d → rooms_of (set xs k v) ≡ rooms_of xs
  keeps_rooms v same = rooms_same xs k d v (same ∙ ap (λ (x : Vec OwnAccess Z). vec_capacity x) is)

  pub clears_one : (v : Vec OwnAccess Z) → v.items ≡ [] → items_of (set xs k v) ≡ set (items_of xs) k []
  clears_one v none = map-set (λ list. list.items) xs k v ∙ ap (λ (new : List OwnAccess). set (items_of xs) k new) none

  pub room_at : nat_lt (length d.items) (vec_capacity d) ≡ true → HasRoomAt xs k
  room_at room list at = subst (λ (x : Vec OwnAccess Z). length x.items < vec_capacity x) (is ∙ get_or_from_slice_get xs k list d at) (ltb-true (length d.items) (vec_capacity d) room)

  pub no_room_at : nat_lt (length d.items) (vec_capacity d) ≡ false → k < length xs → HasRoomAt xs k → ⊥
  no_room_at full lt room =
      let few = room (get_or xs k d) (slice_get-get_or xs k d lt) in
      let many = ltb-false (length d.items) (vec_capacity d) full in
      let same = ap (λ (x : Vec OwnAccess Z). length x.items) is in
      let still = ap (λ (x : Vec OwnAccess Z). vec_capacity x) is in
      omega (arith, few, many, same, still)

-- lists without an event are those of none
pub routed_none : (r : Routes) (n : ℕ) → r.count ≡ 0 → r.common.items ≡ [] → lists_of r ≡ replicate n [] → IsRouted [] r
routed_none r n count common lists =
    record {
      count = count;
      common = common;
      own = lists ∙ ap (λ m. replicate m []) (sym (ap (λ (ls : List (List OwnAccess)). length ls) lists ∙ length-replicate n []) ∙ length-map r.lists.items (λ list. list.items)) ∙ none_own 0 (parts_in r) (parts_in r);
    }

all_empty : (xs : List (List OwnAccess)) → ((j : ℕ) → j < length xs → get_or xs j [] ≡ []) → xs ≡ replicate (length xs) []
all_empty [] h = refl
all_empty (x ∷ xs) h = λ i. h 0 (omega arith) i ∷ all_empty xs (λ j lt. h (suc j) (omega (arith, lt))) i

pub cleared_more : (xs : List (List OwnAccess)) (k : ℕ) → k < length xs → ((j : ℕ) → j < k → get_or xs j [] ≡ []) → (j : ℕ) → j < k + 1 → get_or (set xs k []) j [] ≡ []
cleared_more xs k below h j lt =
    ⊎_elim
    (λ (low : j < k). get_or-set_other xs k j [] [] (λ e. absurd (omega (arith, low, e))) ∙ h j low)
    (λ (high : k ≤ j). get_or-set_at xs k j [] [] (omega (arith, high, lt)) below)
    (cases_lt j k)

pub cleared_all : (r : Routes) (k : ℕ) → r.count ≡ 0 → r.common.items ≡ [] → parts_in r ≤ k → ((j : ℕ) → j < k → get_or (lists_of r) j [] ≡ []) → IsRouted [] r
cleared_all r k count common le h =
    let many = length-map r.lists.items (λ list. list.items) in
    routed_none r (length (lists_of r)) count common (all_empty (lists_of r) (λ j lt. h j (omega (arith, lt, many, le))))

pub two_puts : (xs ys : List (List OwnAccess)) (m : ℕ) (item : OwnAccess) → xs ≡ ys → with_own xs m item ≡ with_own ys m item
two_puts xs ys m item same = ap (λ (ls : List (List OwnAccess)). with_own ls m item) same
