-- The reports of parts make those of the whole.
use Rattle.std.proofs.Common.{◌≡◌, ℕ, zero, suc, ◌+◌, ◌-◌, ◌/◌, ◌<◌, ◌≤◌, Bool, true, false, cond, ◌||◌, nat_eq, nat_lt, List, [], ◌∷◌, ◌++◌, length, map, filter, take, drop, refl, sym, ap, ◌∙◌, subst, arith, eqb-true, append-nil, ltb-true, ltb-false, get_or, Contains}
use Rattle.std.proofs.lemmas.Bool.{eqb-false}
use Rattle.std.proofs.lemmas.List.FromFn.{get_or-map-range_with_len, length-map-range_with_len}
use Rattle.std.proofs.lemmas.List.Concat.{length-flat_map}
use Rattle.std.proofs.lemmas.List.Folds.{flat_map-map}
use Rattle.std.proofs.lemmas.List.Elements.{filter-append, filter_passes, All-contains}
use Rattle.std.proofs.lemmas.List.{take-append-drop, get_or_past}
use Rattle.std.specs.List.{AllByRecursion, flat_map, range_with_len, sum_by}
use Rattle.hg_model.specs.declared.event.Event.{Event}
use Rattle.hg_model.specs.declared.report.Report.{Report}
use Rattle.hg_model.specs.Reporting.{all_reports, reports_at_last}
use Rattle.hg_model.proofs.Rising.{From}
use Rattle.hg_shards.specs.Alike.{reports_within}
use Rattle.hg_shards.specs.Merging.{IsBefore, Rises, sorted, merged}
use Rattle.hg_shards.specs.Parts.{words_of_part, AreParts, reports_by_part, MakeTheWhole}
use Rattle.hg_shards.proofs.Order.{length_sorted, each_weaker}
use Rattle.hg_shards.proofs.Merging.{among, each_filter, front_is_first}
use Rattle.hg_shards.proofs.Rising.{last_rise, reports_rise_lem}
use Rattle.hg_shards.proofs.Reports.{same_last, same_reports}

-- ---- the numbers of parts

pub numbers_rise : (a n : ℕ) → From a (range_with_len a n)
numbers_rise a zero = tt
numbers_rise a (suc n) = (omega arith, subst (λ m. From m (range_with_len (a + 1) n)) (let e : a + 1 ≡ suc a = omega arith in e) (numbers_rise (a + 1) n))

pub number_among : (a n k : ℕ) → a ≤ k → k < a + n → among k (range_with_len a n) ≡ true
number_among a zero k low high = absurd (omega arith)
number_among a (suc n) k low high =
    elim (nat_eq k a) as (λ b. nat_eq k a ≡ b → (b || among k (range_with_len (a + 1) n)) ≡ true) [
      | true ↦ λ _. refl
      | false ↦ λ other. number_among (a + 1) n k (let ne = eqb-false k a other in omega arith) (omega arith)
    ] refl

pub map_numbers : {X : Type 0} (f g : ℕ → X) (a n : ℕ) → ((k : ℕ) → k < a + n → f k ≡ g k) → map f (range_with_len a n) ≡ map g (range_with_len a n)
map_numbers f g a zero same = refl
map_numbers f g a (suc n) same = λ i. same a (omega arith) i ∷ map_numbers f g (a + 1) n (λ k lt. same k (omega arith)) i

-- ---- the front of a list and what comes behind it

pub rises_front : (m : ℕ) (reports : List Report) → Rises reports → Rises (take m reports)
rises_front zero reports h = tt
rises_front (suc m) [] h = tt
rises_front (suc m) (r ∷ reports) h = (each_taken (IsBefore r) m reports h.0, rises_front m reports h.1)
  where
    each_taken : (P : Report → Type 0) (n : ℕ) (rs : List Report) → AllByRecursion P rs → AllByRecursion P (take n rs)
    each_taken P zero rs k = tt
    each_taken P (suc n) [] k = tt
    each_taken P (suc n) (s ∷ rs) k = (k.0, each_taken P n rs k.1)

pub each_dropped : (P : Report → Type 0) (n : ℕ) (reports : List Report) → AllByRecursion P reports → AllByRecursion P (drop n reports)
each_dropped P zero reports h = h
each_dropped P (suc n) [] h = tt
each_dropped P (suc n) (r ∷ reports) h = each_dropped P n reports h.1

pub each_in_front : (P : Report → Type 0) (n : ℕ) (reports : List Report) → AllByRecursion P reports → AllByRecursion P (take n reports)
each_in_front P zero reports h = tt
each_in_front P (suc n) [] h = tt
each_in_front P (suc n) (r ∷ reports) h = (h.0, each_in_front P n reports h.1)

front_before : (m : ℕ) (reports : List Report) → Rises reports → AllByRecursion (λ r. AllByRecursion (IsBefore r) (drop m reports)) (take m reports)
front_before zero reports h = tt
front_before (suc m) [] h = tt
front_before (suc m) (r ∷ reports) h = (each_dropped (IsBefore r) m reports h.0, front_before m reports h.1)

take_taken : (m : ℕ) (xs more : List Report) → (drop m xs ≡ [] → more ≡ []) → take m (take m xs ++ more) ≡ take m xs
take_taken zero xs more none = refl
take_taken (suc m) [] more none = ap (take (suc m)) (none refl)
take_taken (suc m) (x ∷ xs) more none = ap (λ rest. x ∷ rest) (take_taken m xs more none)

pub take_over : (xs ys : List Report) (m : ℕ) → length xs ≤ m → take m (xs ++ ys) ≡ xs ++ take (m - length xs) ys
take_over [] ys m le = ap (λ n. take n ys) (let e : m ≡ m - 0 = omega arith in e)
take_over (x ∷ xs) ys zero le = absurd (omega arith)
take_over (x ∷ xs) ys (suc m) le = ap (λ rest. x ∷ rest) (take_over xs ys m (omega arith) ∙ ap (λ n. xs ++ take n ys) (let e : m - length xs ≡ suc m - suc (length xs) = omega arith in e))

few_pass : (p : Report → Bool) (m : ℕ) (xs : List Report) → length (filter p (take m xs)) ≤ m
few_pass p zero xs = omega arith
few_pass p (suc m) [] = omega arith
few_pass p (suc m) (x ∷ xs) =
    elim (p x) as (λ b. length (cond b (x ∷ filter p (take m xs)) (filter p (take m xs))) ≤ suc m) [ true ↦ (let le = few_pass p m xs in omega arith) | false ↦ (let le = few_pass p m xs in omega arith) ]

none_flat : (f : ℕ → List Report) → ((k : ℕ) → f k ≡ []) → (ks : List ℕ) → flat_map f ks ≡ []
none_flat f none [] = refl
none_flat f none (k ∷ ks) = (λ i. none k i ++ none_flat f none ks i)

none_taken : (n : ℕ) (reports : List Report) → reports ≡ [] → take n reports ≡ []
none_taken zero reports h = refl
none_taken (suc n) reports h = ap (take (suc n)) h

pub flat_same : (f g : ℕ → List Report) → ((k : ℕ) → f k ≡ g k) → (ks : List ℕ) → flat_map f ks ≡ flat_map g ks
flat_same f g same [] = refl
flat_same f g same (k ∷ ks) = λ i. same k i ++ flat_same f g same ks i

-- ---- one whole list that rises, and its parts

module _ (count : ℕ) (part_of : ℕ → ℕ) (some : (w : ℕ) → part_of w < count) (whole : List Report) (up : Rises whole) where
  abbrev part : Report → ℕ
  part r = part_of (r.word / 4)

  abbrev numbers : List ℕ
  numbers = range_with_len 0 count

  abbrev its : ℕ → List Report
  its k = reports_within (words_of_part part_of k) whole

  abbrev all_parts : List (List Report)
  all_parts = map its numbers

  has_part : (r : Report) → among (part r) numbers ≡ true
  has_part r = number_among 0 count (part r) (omega arith) (let lt = some (r.word / 4) in omega arith)

  each_any : {X : Type 0} (P : X → Type 0) → ((x : X) → P x) → (xs : List X) → AllByRecursion P xs
  each_any P f [] = tt
  each_any P f (x ∷ xs) = (f x, each_any P f xs)

  all_merged : merged all_parts ≡ whole
  all_merged =
      ap sorted (flat_map-map (λ (rs : List Report). rs) its numbers ∙ flat_same its (λ k. its k ++ []) (λ k. sym (append-nil (its k))) numbers)
      ∙ front_is_first part (λ k. []) 0 numbers (numbers_rise 0 count) has_part whole up (each_any (λ r. (k : ℕ) → AllByRecursion (IsBefore r) []) (λ r k. tt) whole)
      ∙ ap (λ more. whole ++ sorted more) (none_flat (λ k. []) (λ k. refl) numbers)
      ∙ append-nil whole

  total : sum_by length all_parts ≡ length whole
  total = sym (length-flat_map (λ (rs : List Report). rs) all_parts) ∙ sym (length_sorted (flat_map (λ (rs : List Report). rs) all_parts)) ∙ ap length all_merged

  -- what a part has behind those of the first m that are its own, as far as it is kept
  abbrev later : ℕ → ℕ → List Report
  later m k = take (m - length (reports_within (words_of_part part_of k) (take m whole))) (reports_within (words_of_part part_of k) (drop m whole))

  kept_part : (m k : ℕ) → take m (its k) ≡ reports_within (words_of_part part_of k) (take m whole) ++ later m k
  kept_part m k =
      ap (λ rs. take m (reports_within (words_of_part part_of k) rs)) (sym (take-append-drop m whole))
      ∙ ap (take m) (filter-append (λ (r : Report). words_of_part part_of k (r.word / 4)) (take m whole) (drop m whole))
      ∙ take_over (reports_within (words_of_part part_of k) (take m whole)) (reports_within (words_of_part part_of k) (drop m whole)) m (few_pass (λ (r : Report). words_of_part part_of k (r.word / 4)) m whole)

  later_none : (m : ℕ) → drop m whole ≡ [] → sorted (flat_map (later m) numbers) ≡ []
  later_none m none =
      ap sorted (none_flat (later m) (λ k. none_taken (m - length (reports_within (words_of_part part_of k) (take m whole))) (reports_within (words_of_part part_of k) (drop m whole)) (ap (reports_within (words_of_part part_of k)) none)) numbers)

  kept : (m : ℕ) → take m (merged (map (take m) all_parts)) ≡ take m whole
  kept m =
      ap (λ rs. take m (sorted rs))
      (flat_map-map (λ (rs : List Report). rs) (take m) all_parts ∙ flat_map-map (take m) its numbers ∙ flat_same (λ k. take m (its k)) (λ k. reports_within (words_of_part part_of k) (take m whole) ++ later m k) (kept_part m) numbers)
      ∙ ap (take m)
      (front_is_first part (later m) 0 numbers (numbers_rise 0 count) has_part (take m whole) (rises_front m whole up)
      (each_weaker (λ (r : Report). AllByRecursion (IsBefore r) (drop m whole)) (λ (r : Report). (k : ℕ) → AllByRecursion (IsBefore r) (later m k))
      (λ r h k. each_in_front (IsBefore r) _ _ (each_filter (IsBefore r) (λ (s : Report). words_of_part part_of k (s.word / 4)) (drop m whole) h))
      (take m whole) (front_before m whole up)))
      ∙ take_taken m whole (sorted (flat_map (later m) numbers)) (later_none m)

  of_part : (j : ℕ) (r : Report) → Contains (get_or all_parts j []) r → part r ≡ j
  of_part j r h =
      elim (nat_lt j count) as (λ b. nat_lt j count ≡ b → part r ≡ j) [
        | true ↦ λ lt.
            let within : Contains (its j) r = subst (λ (rs : List Report). Contains rs r) (get_or-map-range_with_len its 0 count j j [] (ltb-true j count lt) (omega arith)) h in
            eqb-true (part r) j (All-contains (λ (s : Report). words_of_part part_of j (s.word / 4) ≡ true) (its j) r (filter_passes (λ (s : Report). words_of_part part_of j (s.word / 4)) whole) within)
        | false ↦ λ ge. absurd (no_member r (subst (λ (rs : List Report). Contains rs r) (get_or_past all_parts j [] (let le = ltb-false j count ge in omega (arith, length-map-range_with_len its 0 count))) h))
      ] refl
    where
      no_member : (s : Report) → Contains [] s → ⊥
      no_member s c = let lt = c.1 in absurd (omega arith)

  pub make_the_whole : MakeTheWhole all_parts whole
  make_the_whole = record { all = all_merged; apart = λ j k r g h. sym (of_part j r g) ∙ of_part k r h; total = total; kept = kept }

pub parts_make_the_whole_lem : (count : ℕ) (part_of : ℕ → ℕ) (trace : List Event) (trace_of : ℕ → List Event) → AreParts count part_of trace trace_of →
    MakeTheWhole (reports_by_part count part_of (λ k. all_reports (trace_of k))) (all_reports trace)
    × MakeTheWhole (reports_by_part count part_of (λ k. reports_at_last (trace_of k))) (reports_at_last trace)
parts_make_the_whole_lem count part_of trace trace_of h = (
  subst (λ (lists : List (List Report)). MakeTheWhole lists (all_reports trace))
      (map_numbers (λ k. reports_within (words_of_part part_of k) (all_reports trace)) (λ k. reports_within (words_of_part part_of k) (all_reports (trace_of k))) 0 count
      (λ k lt. same_reports (words_of_part part_of k) trace (trace_of k) (h.agree k (omega arith))))
      (make_the_whole count part_of h.some (all_reports trace) (reports_rise_lem trace)),
  subst (λ (lists : List (List Report)). MakeTheWhole lists (reports_at_last trace))
      (map_numbers (λ k. reports_within (words_of_part part_of k) (reports_at_last trace)) (λ k. reports_within (words_of_part part_of k) (reports_at_last (trace_of k))) 0 count
      (λ k lt. same_last (words_of_part part_of k) trace (trace_of k) (h.agree k (omega arith))))
      (make_the_whole count part_of h.some (reports_at_last trace) (last_rise trace)),
)

pub shares_make_the_whole_lem : (count : ℕ) (part_of : ℕ → ℕ) (whole : List Report) → ((w : ℕ) → part_of w < count) → Rises whole → MakeTheWhole (reports_by_part count part_of (λ k. whole)) whole
shares_make_the_whole_lem count part_of whole some up = make_the_whole count part_of some whole up
