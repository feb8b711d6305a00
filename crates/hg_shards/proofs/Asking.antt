-- The sets that a trace and its parts ask for.
use Rattle.std.proofs.Common.{◌≡◌, ℕ, ◌*◌, ◌/◌, ◌<◌, ◌≤◌, Bool, true, false, cond, ◌||◌, ◌&&◌, nat_eq, List, [], ◌∷◌, ◌++◌, length, map, filter, Some, None, refl, sym, ap, ◌∙◌, subst, arith}
use Rattle.std.proofs.lemmas.Bool.{false≢true, true_from_ne_false}
use Rattle.std.proofs.lemmas.List.Concat.{length-flat_map}
use Rattle.std.proofs.lemmas.List.Folds.{flat_map-map, list_any-append}
use Rattle.std.proofs.lemmas.List.FromFn.{length-map-range_with_len}
use Rattle.std.proofs.lemmas.Map.Made.{distinct_count-le}
use Rattle.std.specs.Set.{unique_keys}
use Rattle.std.specs.Cmp.Lexicographic.{pointwise}
use Rattle.std.specs.List.{AllByRecursion, flat_map, list_any, range_with_len, sum_by}
use Rattle.hg_model.specs.declared.event.Event.{Event}
use Rattle.hg_model.specs.declared.event.Event.TheVariants.{Read, Write}
use Rattle.hg_model.specs.declared.event.Named.{Named}
use Rattle.hg_model.specs.declared.report.Report.{Report}
use Rattle.hg_model.specs.Contents.{Content, events_of, summary}
use Rattle.hg_model.specs.Verdicts.{IsAccepted}
use Rattle.hg_model.specs.Change.{word_after}
use Rattle.hg_model.proofs.Accepted.{passes}
use Rattle.hg_model.proofs.Words.{history_fits, word_law}
use Rattle.hg_sets.specs.Interning.{Table, first_table}
use Rattle.hg_sets.specs.declared.fault.SetFault.TheVariants.{Full}
use Rattle.hg_detect.specs.Making.{sets_asked, sets_in}
use Rattle.hg_shards.specs.Alike.{AreAlike, AgreeWithin, StaysWithin}
use Rattle.hg_shards.specs.Parts.{words_of_part, AreParts}
use Rattle.hg_shards.specs.Asking.{accessed, sets_of, asked_at_last, asked, asked_after, anywhere, has_set, size_with, sets_by_part, AsksForTrace, HasSets, HaveTogether}
use Rattle.hg_shards.proofs.Lives.{same_touch, same_state}
use Rattle.hg_shards.proofs.Sets.{from_filter, rising_same, contains_filter, each_member}
use Rattle.hg_shards.proofs.Reports.{accessed_rise, accessed_words, is_access}
use Rattle.hg_shards.proofs.Counting.{same_count, has_both, unique_members}
use Rattle.hg_shards.proofs.Tables.{first_has, asks_none, asks_full, size_is}
use Rattle.hg_shards.proofs.Merging.{among}
use Rattle.hg_shards.proofs.Parts.{number_among, map_numbers}

-- ---- other words do not matter

module _ (within : ℕ → Bool) where
  pub same_words : (e f : Event) → AreAlike within e f → filter within (accessed e) ≡ filter within (accessed f)
  same_words e f alike =
      rising_same 0 (filter within (accessed e)) (filter within (accessed f)) (from_filter within 0 (accessed e) (accessed_rise e)) (from_filter within 0 (accessed f) (accessed_rise f))
      (λ w.
      contains_filter within (accessed e) w ∙ ap (λ b. within w && b) (accessed_words e w)
      ∙ by (within w) (λ inside. ap is_access (same_touch within e f alike w inside))
      ∙ sym (contains_filter within (accessed f) w ∙ ap (λ b. within w && b) (accessed_words f w)))
    where
      by : {x y : Bool} (b : Bool) → (b ≡ true → x ≡ y) → (b && x) ≡ (b && y)
      by true same = same refl
      by false same = refl

  pub flat_passing : (f g : ℕ → List (List ℕ)) → ((w : ℕ) → within w ≡ true → f w ≡ g w) → (ws : List ℕ) → flat_map f (filter within ws) ≡ flat_map g (filter within ws)
  flat_passing f g same [] = refl
  flat_passing f g same (w ∷ ws) =
      elim (within w) as (λ b. within w ≡ b → flat_map f (cond b (w ∷ filter within ws) (filter within ws)) ≡ flat_map g (cond b (w ∷ filter within ws) (filter within ws))) [
        | true ↦ λ inside i. same w inside i ++ flat_passing f g same ws i
        | false ↦ λ _. flat_passing f g same ws
      ] refl

  pub same_asked : (es fs : List Event) → AgreeWithin within es fs → asked within es ≡ asked within fs
  same_asked [] [] h = refl
  same_asked [] (f ∷ fs) h = absurd h
  same_asked (e ∷ es) [] h = absurd h
  same_asked (e ∷ es) (f ∷ fs) h =
      (λ i. same_asked es fs h.1 i ++ flat_map (sets_of (e ∷ es)) (same_words e f h.0 i))
      ∙ ap (λ sets. asked within fs ++ sets) (flat_passing (sets_of (e ∷ es)) (sets_of (f ∷ fs)) (λ w inside. ap sets_in (same_state within w inside (e ∷ es) (f ∷ fs) h)) (accessed f))

-- ---- the sets of all parts

any_none : (ks : List ℕ) → list_any (λ k. false) ks ≡ false
any_none [] = refl
any_none (k ∷ ks) = any_none ks

any_or : (f g : ℕ → Bool) (ks : List ℕ) → list_any (λ k. f k || g k) ks ≡ (list_any f ks || list_any g ks)
any_or f g [] = refl
any_or f g (k ∷ ks) = ap (λ b. (f k || g k) || b) (any_or f g ks) ∙ swap (f k) (g k) (list_any f ks) (list_any g ks)
  where
    swap : (a b c d : Bool) → ((a || b) || (c || d)) ≡ ((a || c) || (b || d))
    swap true b c d = refl
    swap false true true d = refl
    swap false true false d = refl
    swap false false c d = refl

any_and : (f : ℕ → Bool) (b : Bool) (ks : List ℕ) → list_any (λ k. f k && b) ks ≡ (list_any f ks && b)
any_and f b [] = refl
any_and f b (k ∷ ks) = ap (λ c. (f k && b) || c) (any_and f b ks) ∙ join (f k) (list_any f ks) b
  where
    join : (x y z : Bool) → ((x && z) || (y && z)) ≡ ((x || y) && z)
    join true true true = refl
    join true true false = refl
    join true false true = refl
    join true false false = refl
    join false y z = refl

any_same : (f g : ℕ → Bool) → ((k : ℕ) → f k ≡ g k) → (ks : List ℕ) → list_any f ks ≡ list_any g ks
any_same f g same [] = refl
any_same f g same (k ∷ ks) = λ i. same k i || any_same f g same ks i

has_flat : (f : ℕ → List (List ℕ)) (set : List ℕ) (ks : List ℕ) → has_set (flat_map f ks) set ≡ list_any (λ k. has_set (f k) set) ks
has_flat f set [] = refl
has_flat f set (k ∷ ks) = list_any-append (pointwise nat_eq set) (f k) (flat_map f ks) ∙ ap (λ b. has_set (f k) set || b) (has_flat f set ks)

any_filter : (test p : ℕ → Bool) (ws : List ℕ) → list_any p (filter test ws) ≡ list_any (λ w. test w && p w) ws
any_filter test p [] = refl
any_filter test p (w ∷ ws) =
    elim (test w) as (λ b. list_any p (cond b (w ∷ filter test ws) (filter test ws)) ≡ ((b && p w) || list_any (λ v. test v && p v) ws)) [
      | true ↦ ap (λ b. p w || b) (any_filter test p ws)
      | false ↦ any_filter test p ws
    ]

module _ (part : ℕ → ℕ) (numbers : List ℕ) (some : (w : ℕ) → among (part w) numbers ≡ true) where
  spread : (p : ℕ → Bool) (ws : List ℕ) → list_any (λ k. list_any (λ w. nat_eq (part w) k && p w) ws) numbers ≡ list_any p ws
  spread p [] = any_none numbers
  spread p (w ∷ ws) =
      any_or (λ k. nat_eq (part w) k && p w) (λ k. list_any (λ v. nat_eq (part v) k && p v) ws) numbers
      ∙ (λ i. (any_and (λ k. nat_eq (part w) k) (p w) numbers ∙ ap (λ b. b && p w) (some w)) i || spread p ws i)

  spread_at_last : (set : List ℕ) (trace : List Event) → list_any (λ k. has_set (asked_at_last (λ w. nat_eq (part w) k) trace) set) numbers ≡ has_set (asked_at_last anywhere trace) set
  spread_at_last set [] = any_none numbers
  spread_at_last set (e ∷ past) =
      let p = λ (w : ℕ). has_set (sets_of (e ∷ past) w) set in
      any_same (λ k. has_set (flat_map (sets_of (e ∷ past)) (filter (λ w. nat_eq (part w) k) (accessed e))) set) (λ k. list_any (λ w. nat_eq (part w) k && p w) (accessed e))
      (λ k. has_flat (sets_of (e ∷ past)) set (filter (λ w. nat_eq (part w) k) (accessed e)) ∙ any_filter (λ w. nat_eq (part w) k) p (accessed e)) numbers
      ∙ spread p (accessed e)
      ∙ sym (has_flat (sets_of (e ∷ past)) set (filter anywhere (accessed e)) ∙ any_filter anywhere p (accessed e))

  spread_all : (set : List ℕ) (trace : List Event) → list_any (λ k. has_set (asked (λ w. nat_eq (part w) k) trace) set) numbers ≡ has_set (asked anywhere trace) set
  spread_all set [] = any_none numbers
  spread_all set (e ∷ past) =
      any_same (λ k. has_set (asked (λ w. nat_eq (part w) k) past ++ asked_at_last (λ w. nat_eq (part w) k) (e ∷ past)) set) _
      (λ k. list_any-append (pointwise nat_eq set) (asked (λ w. nat_eq (part w) k) past) (asked_at_last (λ w. nat_eq (part w) k) (e ∷ past))) numbers
      ∙ any_or (λ k. has_set (asked (λ w. nat_eq (part w) k) past) set) (λ k. has_set (asked_at_last (λ w. nat_eq (part w) k) (e ∷ past)) set) numbers
      ∙ (λ i. spread_all set past i || spread_at_last set (e ∷ past) i)
      ∙ sym (list_any-append (pointwise nat_eq set) (asked anywhere past) (asked_at_last anywhere (e ∷ past)))

-- the members of several lists, each once in its list
each_once : (lists : List (List (List ℕ))) (set : List ℕ) → 0 < length lists →
    has_set ([] ∷ flat_map (λ (own : List (List ℕ)). own) lists) set ≡ has_set (flat_map (λ (own : List (List ℕ)). unique_keys (pointwise nat_eq) ([] ∷ own)) lists) set
each_once [] set some = absurd (omega arith)
each_once (own ∷ []) set some =
    ap (λ b. pointwise nat_eq set [] || b) (has_both own [] set ∙ or_false (has_set own set))
    ∙ sym (has_both (unique_keys (pointwise nat_eq) ([] ∷ own)) [] set ∙ or_false (has_set (unique_keys (pointwise nat_eq) ([] ∷ own)) set) ∙ unique_members ([] ∷ own) set)
  where
    or_false : (b : Bool) → (b || false) ≡ b
    or_false true = refl
    or_false false = refl
each_once (own ∷ other ∷ lists) set some =
    ap (λ b. pointwise nat_eq set [] || b) (has_both own (flat_map (λ (xs : List (List ℕ)). xs) (other ∷ lists)) set)
    ∙ regroup (pointwise nat_eq set []) (has_set own set) (has_set (flat_map (λ (xs : List (List ℕ)). xs) (other ∷ lists)) set)
    ∙ (λ i. sym (unique_members ([] ∷ own) set) i || each_once (other ∷ lists) set (omega arith) i)
    ∙ sym (has_both (unique_keys (pointwise nat_eq) ([] ∷ own)) (flat_map (λ (xs : List (List ℕ)). unique_keys (pointwise nat_eq) ([] ∷ xs)) (other ∷ lists)) set)
  where
    regroup : (a b c : Bool) → (a || (b || c)) ≡ ((a || b) || (a || c))
    regroup true b c = refl
    regroup false b c = refl

-- all lists together have no more sets than each has by itself
few_together : (lists : List (List (List ℕ))) → 0 < length lists → size_with (flat_map (λ (own : List (List ℕ)). own) lists) ≤ sum_by size_with lists
few_together lists some =
    let all = flat_map (λ (own : List (List ℕ)). unique_keys (pointwise nat_eq) ([] ∷ own)) lists in
    let same = same_count ([] ∷ flat_map (λ (own : List (List ℕ)). own) lists) all (λ q. each_once lists q some) in
    let most = distinct_count-le (pointwise nat_eq) all in
    let sizes = length-flat_map (λ (own : List (List ℕ)). unique_keys (pointwise nat_eq) ([] ∷ own)) lists in
    omega (arith, same, most, sizes)

pub parts_ask : (count : ℕ) (part_of : ℕ → ℕ) (trace : List Event) (trace_of : ℕ → List Event) → AreParts count part_of trace trace_of →
    HaveTogether (sets_by_part count part_of trace_of) (asked anywhere trace)
parts_ask count part_of trace trace_of h =
    record {
      members = members;
      size = sizes;
      few = subst (λ (n : ℕ). n ≤ sum_by size_with (sets_by_part count part_of trace_of)) (sym sizes) (few_together (sets_by_part count part_of trace_of) some);
    }
  where
    own : sets_by_part count part_of trace_of ≡ map (λ k. asked (words_of_part part_of k) trace) (range_with_len 0 count)
    own = map_numbers (λ k. asked (words_of_part part_of k) (trace_of k)) (λ k. asked (words_of_part part_of k) trace) 0 count (λ k lt. sym (same_asked (words_of_part part_of k) trace (trace_of k) (h.agree k (omega arith))))

    some : 0 < length (sets_by_part count part_of trace_of)
    some = let lt = h.some 0 in let e = length-map-range_with_len (λ k. asked (words_of_part part_of k) (trace_of k)) 0 count in omega (arith, lt, e)

    members : (set : List ℕ) → has_set (asked anywhere trace) set ≡ has_set (flat_map (λ (sets : List (List ℕ)). sets) (sets_by_part count part_of trace_of)) set
    members set =
        sym (spread_all part_of (range_with_len 0 count) (λ w. number_among 0 count (part_of w) (omega arith) (let lt = h.some w in omega arith)) set trace)
        ∙ sym (has_flat (λ k. asked (words_of_part part_of k) trace) set (range_with_len 0 count))
        ∙ ap (λ (sets : List (List ℕ)). has_set sets set) (sym (flat_map-map (λ (sets : List (List ℕ)). sets) (λ k. asked (words_of_part part_of k) trace) (range_with_len 0 count)))
        ∙ ap (λ (lists : List (List (List ℕ))). has_set (flat_map (λ (sets : List (List ℕ)). sets) lists) set) (sym own)

    sizes : size_with (asked anywhere trace) ≡ size_with (flat_map (λ (sets : List (List ℕ)). sets) (sets_by_part count part_of trace_of))
    sizes = same_count ([] ∷ asked anywhere trace) ([] ∷ flat_map (λ (sets : List (List ℕ)). sets) (sets_by_part count part_of trace_of)) (λ q. ap (λ b. pointwise nat_eq q [] || b) (members q))

-- ---- the table of an accepted trace

filter_all : (ws : List ℕ) → filter anywhere ws ≡ ws
filter_all [] = refl
filter_all (w ∷ ws) = ap (λ vs. w ∷ vs) (filter_all ws)

flat_same : (f g : ℕ → List (List ℕ)) → ((w : ℕ) → f w ≡ g w) → (ws : List ℕ) → flat_map f ws ≡ flat_map g ws
flat_same f g same [] = refl
flat_same f g same (w ∷ ws) = λ i. same w i ++ flat_same f g same ws i

pub asked_by_words : (c : Content) (e : Event) → sets_asked c e ≡ flat_map (λ w. sets_in (word_after c e w)) (accessed e)
asked_by_words c (Read a) = refl
asked_by_words c (Write a) = refl
asked_by_words c e = refl

after_is : (n : Named) (past : List Named) → IsAccepted (n ∷ past) → (within : ℕ → Bool) → asked_after within (summary past) n.event ≡ asked_at_last within (events_of (n ∷ past))
after_is n past h within =
    flat_same (λ w. sets_in (word_after (summary past) n.event w)) (sets_of (n.event ∷ events_of past))
    (λ w. ap sets_in (sym (word_law past n.event w (passes past n h.1) (history_fits past h.0 w)))) (filter within (accessed n.event))

asked_is : (n : Named) (past : List Named) → IsAccepted (n ∷ past) → sets_asked (summary past) n.event ≡ asked_at_last anywhere (events_of (n ∷ past))
asked_is n past h =
    asked_by_words (summary past) n.event
    ∙ ap (flat_map (λ w. sets_in (word_after (summary past) n.event w))) (sym (filter_all (accessed n.event)))
    ∙ after_is n past h anywhere

pub sets_are_lem : (n : Named) (past : List Named) → IsAccepted (n ∷ past) →
    ((within : ℕ → Bool) → asked_after within (summary past) n.event ≡ asked_at_last within (events_of (n ∷ past)))
    × (sets_asked (summary past) n.event ≡ asked_at_last anywhere (events_of (n ∷ past)))
sets_are_lem n past h = (after_is n past h, asked_is n past h)

has_trace : (limit : ℕ) → 0 < limit → (trace : List Named) (table : Table) → IsAccepted trace → AsksForTrace (first_table limit) trace None table → HasSets limit (asked anywhere (events_of trace)) table
has_trace limit some [] table h a = subst (HasSets limit []) (sym a.1) (first_has limit some)
has_trace limit some (n ∷ past) table h a =
    subst (λ (sets : List (List ℕ)). HasSets limit (asked anywhere (events_of past) ++ sets) table) (asked_is n past h)
    (asks_none limit (asked anywhere (events_of past)) (sets_asked (summary past) n.event) a.0 table (has_trace limit some past a.0 h.0 a.1) a.2)

full_trace : (limit : ℕ) → 0 < limit → (trace : List Named) (table : Table) → IsAccepted trace → AsksForTrace (first_table limit) trace (Some Full) table → limit < size_with (asked anywhere (events_of trace))
full_trace limit some [] table h a = absurd (cc a.0)
full_trace limit some (n ∷ past) table h a =
    subst (λ (sets : List (List ℕ)). limit < size_with (asked anywhere (events_of past) ++ sets)) (asked_is n past h)
    (asks_full limit (asked anywhere (events_of past)) (sets_asked (summary past) n.event) a.0 table (has_trace limit some past a.0 h.0 a.1) a.2)

pub full_lem : (limit : ℕ) (trace : List Named) (table : Table) → 0 < limit → IsAccepted trace →
    (AsksForTrace (first_table limit) trace None table → (length table.sets ≡ size_with (asked anywhere (events_of trace))) × (length table.sets ≤ limit))
    × (AsksForTrace (first_table limit) trace (Some Full) table → limit < size_with (asked anywhere (events_of trace)))
full_lem limit trace table some h = (
  λ a. let has = has_trace limit some trace table h a in (size_is limit (asked anywhere (events_of trace)) table has, has.within),
  λ a. full_trace limit some trace table h a,
)

-- ---- an event that stays within

pub kept : {X : Type 0} (p : X → Bool) (xs : List X) → AllByRecursion (λ x. p x ≡ true) xs → filter p xs ≡ xs
kept p [] h = refl
kept p (x ∷ xs) h = ap (λ b. cond b (x ∷ filter p xs) (filter p xs)) h.0 ∙ ap (λ more. x ∷ more) (kept p xs h.1)

module _ (within : ℕ → Bool) where
  pub own_words : (e : Event) → StaysWithin within e → AllByRecursion (λ w. within w ≡ true) (accessed e)
  own_words e own =
      each_member (λ w. within w ≡ true) (accessed e)
      (λ w has. true_from_ne_false (within w) (λ outside. false≢true (sym (ap is_access (own w outside)) ∙ sym (accessed_words e w) ∙ has)))

  pub own_asked : (c : Content) (e : Event) → StaysWithin within e → sets_asked c e ≡ asked_after within c e
  own_asked c e own = asked_by_words c e ∙ ap (flat_map (λ w. sets_in (word_after c e w))) (sym (kept within (accessed e) (own_words e own)))

  pub each_report : (f : ℕ → Report) → ((w : ℕ) → (f w).word ≡ 4 * w) → (ws : List ℕ) → AllByRecursion (λ w. within w ≡ true) ws → AllByRecursion (λ (r : Report). within (r.word / 4) ≡ true) (map f ws)
  each_report f word [] h = tt
  each_report f word (w ∷ ws) h = ((let e : (f w).word / 4 ≡ w = (let is = word w in omega arith) in ap within e ∙ h.0), each_report f word ws h.1)
