-- The next report of several lists.
use Rattle.std.proofs.Common.{◌≡◌, ◌⊎◌, ℕ, zero, suc, ◌+◌, ◌<◌, ◌≤◌, true, false, List, [], ◌∷◌, ◌++◌, length, map, get_or, set, Option, Some, None, refl, sym, ap, ◌∙◌, subst, inl, inr, ⊎_elim, arith, append_assoc}
use Rattle.std.proofs.lemmas.Bool.{false≢true, false_from_ne_true, cases_order, cases_lt}
use Rattle.std.proofs.lemmas.List.{get_or-map, get_or_past, length-map}
use Rattle.std.specs.Option.{is_some}
use Rattle.std.specs.List.{AllByRecursion, flat_map}
use Rattle.hg_model.specs.declared.report.Report.{Report}
use Rattle.hg_shards.specs.declared.merge.Place.{Place}
use Rattle.hg_shards.specs.Merging.{is_before, IsBefore, Rises, sorted, merged, place_of, comes_before, head_of, wins, TakesNext, IsNextByHeads}
use Rattle.hg_shards.proofs.Order.{NotAfter, not_after, before_all, precedes, before, least_is_first, each_both, each_weaker}

-- ---- heads by their order

abbrev report_at : Place → Report
report_at p = record { event = p.event; write = false; thread = 0; word = p.word; threads = [] }

place_trans : (p q r : Place) → comes_before p q ≡ true → comes_before q r ≡ true → comes_before p r ≡ true
place_trans p q r = before_all (report_at p) (report_at q) (report_at r)

-- what is before another is before all that are not before that one
pub before_rest : (r s t : Report) → IsBefore r s → is_before t s ≡ false → IsBefore r t
before_rest r s t g h =
    before r t
    (⊎_elim
    (λ (less : t.event < s.event). absurd (false≢true (sym h ∙ before t s (inl less))))
    (λ (other : (t.event ≡ s.event) ⊎ (s.event < t.event)).
    ⊎_elim
    (λ (same : t.event ≡ s.event).
    ⊎_elim
    (λ (less : t.word < s.word). absurd (false≢true (sym h ∙ before t s (inr (same, less)))))
    (λ (more : s.word ≤ t.word).
    ⊎_elim (λ (a : r.event < s.event). inl (omega arith)) (λ (a : (r.event ≡ s.event) × (r.word < s.word)). let e = a.0 in let l = a.1 in inr (omega arith, omega arith)) (precedes r s g))
    (cases_lt t.word s.word))
    (λ (more : s.event < t.event).
    ⊎_elim (λ (a : r.event < s.event). inl (omega arith)) (λ (a : (r.event ≡ s.event) × (r.word < s.word)). let e = a.0 in inl (omega arith)) (precedes r s g))
    other)
    (order t.event s.event))
  where
    order : (a b : ℕ) → (a < b) ⊎ ((a ≡ b) ⊎ (b < a))
    order a b = ⊎_elim (λ (e : a ≡ b). inr (inl e)) (λ (o : (a < b) ⊎ (b < a)). ⊎_elim (λ (l : a < b). inl l) (λ (m : b < a). inr (inr m)) o) (cases_order a b)

place_rest : (p q r : Place) → comes_before p q ≡ true → comes_before r q ≡ false → comes_before p r ≡ true
place_rest p q r = before_rest (report_at p) (report_at q) (report_at r)

not_itself : (p : Place) → comes_before p p ≡ false
not_itself p = false_from_ne_true _ (λ h. absurd (false≢true (sym (not_after (report_at p) (report_at p) h) ∙ h)))

pub wins_trans : (x y z : Option Place) → wins x y ≡ true → wins y z ≡ true → wins x z ≡ true
wins_trans None y z g h = absurd (false≢true g)
wins_trans (Some p) None z g h = absurd (false≢true h)
wins_trans (Some p) (Some q) None g h = refl
wins_trans (Some p) (Some q) (Some r) g h = place_trans p q r g h

pub wins_rest : (x y z : Option Place) → wins x y ≡ true → wins z y ≡ false → wins x z ≡ true
wins_rest None y z g h = absurd (false≢true g)
wins_rest (Some p) y None g h = refl
wins_rest (Some p) None (Some r) g h = absurd (false≢true (sym h))
wins_rest (Some p) (Some q) (Some r) g h = place_rest p q r g h

pub wins_never_itself : (x : Option Place) → wins x x ≡ false
wins_never_itself None = refl
wins_never_itself (Some p) = not_itself p

-- The head at a place is to be taken before all before it, and none of the others, of the first so many, before it.
pub record IsBest (heads : List (Option Place)) (best count : ℕ) : Type 0 where
  pub within : best ≤ count
  pub front : (j : ℕ) → j < best → wins (get_or heads best None) (get_or heads j None) ≡ true
  pub behind : (j : ℕ) → best ≤ j → j < count → wins (get_or heads j None) (get_or heads best None) ≡ false

pub best_none : (heads : List (Option Place)) → IsBest heads 0 0
best_none heads = record { within = omega arith; front = λ j lt. absurd (omega arith); behind = λ j le lt. absurd (omega arith) }

pub best_stays : (heads : List (Option Place)) (best count : ℕ) → IsBest heads best count → wins (get_or heads count None) (get_or heads best None) ≡ false → IsBest heads best (count + 1)
best_stays heads best count h lost =
    record {
      within = let le = h.within in omega arith;
      front = h.front;
      behind = λ j le lt. ⊎_elim (λ (less : j < count). h.behind j le less) (λ (more : count ≤ j). let e : count ≡ j = omega arith in subst (λ (n : ℕ). wins (get_or heads n None) (get_or heads best None) ≡ false) e lost) (cases_lt j count);
    }

pub best_changes : (heads : List (Option Place)) (best count : ℕ) → IsBest heads best count → wins (get_or heads count None) (get_or heads best None) ≡ true → IsBest heads count (count + 1)
best_changes heads best count h won =
    record {
      within = omega arith;
      front = λ j lt. ⊎_elim (λ (less : j < best). wins_trans (get_or heads count None) (get_or heads best None) (get_or heads j None) won (h.front j less)) (λ (more : best ≤ j). wins_rest (get_or heads count None) (get_or heads best None) (get_or heads j None) won (h.behind j more lt)) (cases_lt j best);
      behind = λ j le lt. let e : count ≡ j = omega arith in subst (λ (n : ℕ). wins (get_or heads n None) (get_or heads count None) ≡ false) e (wins_never_itself (get_or heads count None));
    }

-- ---- from heads to lists

in_front : (r : Report) (reports : List Report) → Rises reports → wins (Some (place_of r)) (head_of reports) ≡ true → AllByRecursion (IsBefore r) reports
in_front r [] up h = tt
in_front r (s ∷ reports) up h = (h, each_weaker (IsBefore s) (IsBefore r) (λ t g. before_all r s t h g) reports up.0)

at_end : (r : Report) (reports : List Report) → Rises reports → wins (head_of reports) (Some (place_of r)) ≡ false → AllByRecursion (NotAfter r) reports
at_end r [] up h = tt
at_end r (s ∷ reports) up h = (h, each_weaker (IsBefore s) (NotAfter r) (λ t g. false_from_ne_true (is_before t r) (λ k. false≢true (sym h ∙ before_all s t r g k))) reports up.0)

no_head : (reports : List Report) → wins (head_of reports) None ≡ false → reports ≡ []
no_head [] h = refl
no_head (r ∷ reports) h = absurd (false≢true (sym h))

-- what stands in front of a report and behind it, in all lists
record Stands (lists : List (List Report)) (best : ℕ) (r : Report) (rest : List Report) : Type 0 where
  front : List Report
  back : List Report
  with_it : flat_map (λ (rs : List Report). rs) lists ≡ front ++ r ∷ back
  without : flat_map (λ (rs : List Report). rs) (set lists best rest) ≡ front ++ back
  low : AllByRecursion (IsBefore r) front
  high : AllByRecursion (NotAfter r) back

all_behind : (r : Report) (lists : List (List Report)) → ((j : ℕ) → j < length lists → AllByRecursion (NotAfter r) (get_or lists j [])) → AllByRecursion (NotAfter r) (flat_map (λ (rs : List Report). rs) lists)
all_behind r [] h = tt
all_behind r (l ∷ lists) h = each_both (NotAfter r) l (flat_map (λ (rs : List Report). rs) lists) (h 0 (omega arith)) (all_behind r lists (λ j lt. h (suc j) (omega arith)))

stands : (lists : List (List Report)) (best : ℕ) (r : Report) (rest : List Report) → best < length lists → get_or lists best [] ≡ r ∷ rest → AllByRecursion (IsBefore r) rest →
    ((j : ℕ) → j < best → AllByRecursion (IsBefore r) (get_or lists j [])) → ((j : ℕ) → best < j → j < length lists → AllByRecursion (NotAfter r) (get_or lists j [])) → Stands lists best r rest
stands [] best r rest lt is up low high = absurd (omega arith)
stands (l ∷ lists) zero r rest lt is up low high =
    record {
      front = [];
      back = rest ++ flat_map (λ (rs : List Report). rs) lists;
      with_it = ap (λ first. first ++ flat_map (λ (rs : List Report). rs) lists) is;
      without = refl;
      low = tt;
      high = each_both (NotAfter r) rest (flat_map (λ (rs : List Report). rs) lists) (each_weaker (IsBefore r) (NotAfter r) (not_after r) rest up) (all_behind r lists (λ j within. high (suc j) (omega arith) (omega arith)));
    }
stands (l ∷ lists) (suc best) r rest lt is up low high =
    let s = stands lists best r rest (omega arith) is up (λ j less. low (suc j) (omega arith)) (λ j more within. high (suc j) (omega arith) (omega arith)) in
    record {
      front = l ++ s.front;
      back = s.back;
      with_it = ap (λ more. l ++ more) s.with_it ∙ sym (append_assoc l s.front (r ∷ s.back));
      without = ap (λ more. l ++ more) s.without ∙ sym (append_assoc l s.front s.back);
      low = each_both (IsBefore r) l s.front (low 0 (omega arith)) s.low;
      high = s.high;
    }

pub rises_at : (lists : List (List Report)) → AllByRecursion Rises lists → (j : ℕ) → j < length lists → Rises (get_or lists j [])
rises_at [] up j lt = absurd (omega arith)
rises_at (l ∷ lists) up zero lt = up.0
rises_at (l ∷ lists) up (suc j) lt = rises_at lists up.1 j (omega arith)

takes : (lists : List (List Report)) → AllByRecursion Rises lists → (best : ℕ) → best < length lists → (r : Report) (rest : List Report) → get_or lists best [] ≡ r ∷ rest →
    ((j : ℕ) → j < best → wins (Some (place_of r)) (head_of (get_or lists j [])) ≡ true) → ((j : ℕ) → best < j → j < length lists → wins (head_of (get_or lists j [])) (Some (place_of r)) ≡ false) →
    TakesNext lists best
takes lists up best lt r rest is front behind =
    let own : Rises (r ∷ rest) = subst Rises is (rises_at lists up best lt) in
    let s = stands lists best r rest lt is own.0 (λ j less. in_front r (get_or lists j []) (rises_at lists up j (omega arith)) (front j less)) (λ j more within. at_end r (get_or lists j []) (rises_at lists up j within) (behind j more within)) in
    record {
      report = r;
      rest = rest;
      within = lt;
      is_there = is;
      comes_first = ap sorted s.with_it ∙ least_is_first r s.front s.back s.low s.high ∙ ap (λ more. r ∷ sorted more) (sym s.without);
    }

all_empty : (lists : List (List Report)) → ((j : ℕ) → j < length lists → get_or lists j [] ≡ []) → flat_map (λ (rs : List Report). rs) lists ≡ []
all_empty [] h = refl
all_empty (l ∷ lists) h = λ i. h 0 (omega arith) i ++ all_empty lists (λ j lt. h (suc j) (omega arith)) i

module _ (lists : List (List Report)) (heads : List (Option Place)) (up : AllByRecursion Rises lists) (are : map head_of lists ≡ heads) where
  head_at : (j : ℕ) → j < length lists → get_or heads j None ≡ head_of (get_or lists j [])
  head_at j lt = ap (λ (hs : List (Option Place)). get_or hs j None) (sym are) ∙ get_or-map head_of lists j [] None lt

  as_many : length heads ≡ length lists
  as_many = ap length (sym are) ∙ length-map lists head_of

  pub some_next : (best : ℕ) → IsBest heads best (length heads) → best < length heads → (p : Place) → get_or heads best None ≡ Some p → TakesNext lists best
  some_next best h lt p is = by (get_or lists best []) refl
    where
      within : best < length lists
      within = omega (arith, as_many)

      by : (reports : List Report) → get_or lists best [] ≡ reports → TakesNext lists best
      by [] none = absurd (cc (sym is ∙ head_at best within ∙ ap head_of none))
      by (r ∷ rest) there =
          let own : get_or heads best None ≡ Some (place_of r) = head_at best within ∙ ap head_of there in
          takes lists up best within r rest there
          (λ j less. sym (λ i. wins (own i) (head_at j (omega (arith, as_many)) i)) ∙ h.front j less)
          (λ j more inside. sym (λ i. wins (head_at j inside i) (own i)) ∙ h.behind j (omega arith) (omega (arith, as_many)))

  pub none_next : (best : ℕ) → IsBest heads best (length heads) → (best < length heads → get_or heads best None ≡ None) → merged lists ≡ []
  none_next best h none = ap sorted (all_empty lists empty_at)
    where
      is_none : get_or heads best None ≡ None
      is_none = ⊎_elim (λ (lt : best < length heads). none lt) (λ (le : length heads ≤ best). get_or_past heads best None le) (cases_lt best (length heads))

      empty_at : (j : ℕ) → j < length lists → get_or lists j [] ≡ []
      empty_at j lt =
          ⊎_elim
          (λ (less : j < best). absurd (false≢true (ap (λ x. wins x (get_or heads j None)) (sym is_none) ∙ h.front j less)))
          (λ (more : best ≤ j). no_head (get_or lists j []) (sym (λ i. wins (head_at j lt i) (is_none i)) ∙ h.behind j more (omega (arith, as_many))))
          (cases_lt j best)

some_of : (x : Option Place) → is_some x ≡ true → (p : Place) × (x ≡ Some p)
some_of None h = absurd (false≢true h)
some_of (Some p) h = (p, refl)

none_of : (x : Option Place) → is_some x ≡ false → x ≡ None
none_of None h = refl
none_of (Some p) h = absurd (false≢true (sym h))

-- the best of all heads says which list is next
pub best_is_next : (heads : List (Option Place)) (best count : ℕ) → IsBest heads best count → length heads ≡ count → best < length heads → is_some (get_or heads best None) ≡ true → IsNextByHeads heads (Some best)
best_is_next heads best count h all lt some lists up are =
    let found = some_of (get_or heads best None) some in some_next lists heads up are best (subst (IsBest heads best) (sym all) h) lt found.0 found.1

pub best_is_none : (heads : List (Option Place)) (best count : ℕ) → IsBest heads best count → length heads ≡ count → (best < length heads → is_some (get_or heads best None) ≡ false) → IsNextByHeads heads None
best_is_none heads best count h all none lists up are =
    none_next lists heads up are best (subst (IsBest heads best) (sym all) h) (λ lt. none_of (get_or heads best None) (none lt))
