-- The pages that were changed are collected.
use Rattle.std.proofs.Common.{◌≡◌, ◌⊎◌, inl, inr, ◌+◌, ◌≤◌, ◌<◌, ◌==◌, ◌∙◌, ℕ, zero, suc, nat_eq, Bool, true, false, List, [], ◌∷◌, drop, length, slice_get, option_map, is_some, Option, Some, None, if◌then◌else◌, refl, sym, ap, arith}
use Rattle.std.specs.List.{IsDistinct}
use Rattle.std.specs.Map.{keys_of}
use Rattle.std.proofs.lemmas.Map.Keys.{IsDistinct-head, IsDistinct-tail}
use Rattle.hg_pages.specs.Tables.{slot_in}
use Rattle.hg_cache.specs.declared.frame.Frame.{Frame}
use Rattle.hg_cache.specs.Frames.{page_behind}
use Rattle.hg_pool.specs.Maps.{frame_in}
use Rattle.hg_pool.specs.Picking.{HasDirty}
use Rattle.hg_cache.proofs.Lookups.{if_false, if_true, itself, same_number, turned}
use Rattle.hg_cache.proofs.Orders.{is_listed, none_listed}

-- The table has the changed pages of all but those that are left.
pub record IsCollecting (all left : List (ℕ × Frame)) (table : List (ℕ × ℕ)) (place : ℕ) : Type 0 where
  pub among : (q : ℕ) → is_some (slot_in table q) ≡ true → HasDirty all q
  pub each : (q : ℕ) → HasDirty all q → (is_some (slot_in table q) ≡ true) ⊎ HasDirty left q
  pub rest : (q : ℕ) (f : Frame) → frame_in left q ≡ Some f → frame_in all q ≡ Some f
  pub distinct : IsDistinct nat_eq (keys_of left)
  pub places : (q slot : ℕ) → slot_in table q ≡ Some slot → slot < place
  pub count : place + length left ≡ length all
  pub few : length table ≤ place

pub begun : (all : List (ℕ × Frame)) → IsDistinct nat_eq (keys_of all) → IsCollecting all all [] 0
begun all distinct = record {
  among = λ q is. absurd (cc is);
  each = λ q dirty. inr dirty;
  rest = λ q f is. is;
  distinct = distinct;
  places = λ q slot is. absurd (cc is);
  count = omega arith;
  few = omega arith;
}

-- the key of the first is no key behind it
first_apart : (page : ℕ) (frame : Frame) (left : List (ℕ × Frame)) (q : ℕ) (f : Frame) → IsDistinct nat_eq (keys_of ((page, frame) ∷ left)) → frame_in left q ≡ Some f → (q == page) ≡ false
first_apart page frame left q f distinct is = by (q == page) refl
  where
    by : (b : Bool) → (q == page) ≡ b → (q == page) ≡ false
    by true test =
        let none = is_listed page left ∙ none_listed page (keys_of left) (IsDistinct-head nat_eq page (keys_of left) distinct) in
        absurd (cc (sym (ap is_some is) ∙ ap (λ (n : ℕ). is_some (frame_in left n)) (same_number q page test) ∙ none))
    by false test = test

noted : (dirty : Bool) (page place q : ℕ) (old new : Option ℕ) → new ≡ (if dirty then (if page == q then Some place else old) else old) → is_some old ≡ true → is_some new ≡ true
noted false page place q old new look there = ap is_some look ∙ there
noted true page place q old new look there = ap is_some look ∙ by (page == q)
  where
    by : (b : Bool) → is_some (if b then Some place else old) ≡ true
    by true = refl
    by false = there

-- one page more
pub collected : (all left : List (ℕ × Frame)) (page place : ℕ) (frame : Frame) (old new : List (ℕ × ℕ)) → IsCollecting all ((page, frame) ∷ left) old place
    → ((q : ℕ) → slot_in new q ≡ (if frame.is_dirty then (if page == q then Some place else slot_in old q) else slot_in old q)) → length new ≤ length old + 1 → IsCollecting all left new (place + 1)
collected all left page place frame old new s look size = record {
  among = λ q is. among q frame.is_dirty refl (page == q) refl (sym (ap is_some (look q)) ∙ is);
  each = λ q dirty. each q (s.each q dirty);
  rest = λ q f is. s.rest q f (if_false (q == page) (Some frame) (frame_in left q) (first_apart page frame left q f s.distinct is) ∙ is);
  distinct = IsDistinct-tail nat_eq page (keys_of left) s.distinct;
  places = λ q slot is. places q slot frame.is_dirty (page == q) (sym (look q) ∙ is);
  count = let count = s.count in omega (arith, count);
  few = let few = s.few in omega (arith, size);
}
  where
    here : frame_in ((page, frame) ∷ left) page ≡ Some frame
    here = if_true (page == page) (Some frame) (frame_in left page) (itself page)

    among : (q : ℕ) (dirty : Bool) → frame.is_dirty ≡ dirty → (b : Bool) → (page == q) ≡ b → is_some (if dirty then (if b then Some place else slot_in old q) else slot_in old q) ≡ true → HasDirty all q
    among q false is b test there = s.among q there
    among q true is true test there = (frame, s.rest q frame (ap (λ (n : ℕ). frame_in ((page, frame) ∷ left) n) (sym (same_number page q test)) ∙ here), is)
    among q true is false test there = s.among q there

    behind : (q : ℕ) (f : Frame) (b : Bool) → (q == page) ≡ b → (if b then Some frame else frame_in left q) ≡ Some f → f.is_dirty ≡ true → (is_some (slot_in new q) ≡ true) ⊎ HasDirty left q
    behind q f true test is dirty =
        let same : frame ≡ f = cc is in
        let changed : frame.is_dirty ≡ true = ap (λ (x : Frame). x.is_dirty) same ∙ dirty in
        inl (ap is_some (look q ∙ if_true frame.is_dirty (if page == q then Some place else slot_in old q) (slot_in old q) changed ∙ if_true (page == q) (Some place) (slot_in old q) (turned page q ∙ test)))
    behind q f false test is dirty = inr (f, is, dirty)

    each : (q : ℕ) → (is_some (slot_in old q) ≡ true) ⊎ HasDirty ((page, frame) ∷ left) q → (is_some (slot_in new q) ≡ true) ⊎ HasDirty left q
    each q (inl there) = inl (noted frame.is_dirty page place q (slot_in old q) (slot_in new q) (look q) there)
    each q (inr there) = behind q there.0 (q == page) refl there.1 there.2

    places : (q slot : ℕ) (dirty b : Bool) → (if dirty then (if b then Some place else slot_in old q) else slot_in old q) ≡ Some slot → slot < place + 1
    places q slot false b is = let lt = s.places q slot is in omega (arith, lt)
    places q slot true true is = let same : place ≡ slot = cc is in omega (arith, same)
    places q slot true false is = let lt = s.places q slot is in omega (arith, lt)

-- all of them
pub all_collected : (all : List (ℕ × Frame)) (table : List (ℕ × ℕ)) (place : ℕ) → IsCollecting all [] table place → (q : ℕ) → ((is_some (slot_in table q) ≡ true → HasDirty all q) × (HasDirty all q → is_some (slot_in table q) ≡ true))
all_collected all table place s q = (s.among q, λ dirty. last (s.each q dirty))
  where
    last : (is_some (slot_in table q) ≡ true) ⊎ HasDirty [] q → is_some (slot_in table q) ≡ true
    last (inl there) = there
    last (inr there) = absurd (cc there.1)

-- The pages are gone through in the order of their use. The page at a place has a frame there,
pub got_page : (o : Option (ℕ × Frame)) (page : ℕ) → option_map (λ e. e.0) o ≡ Some page → (f : Frame) × (o ≡ Some (page, f))
got_page None page is = absurd (cc is)
got_page (Some e) page is = let same : e.0 ≡ page = cc is in (e.1, ap (λ (n : ℕ). Some (n, e.1)) same)

-- which is the frame of the page,
pub frame_of_got : (es : List (ℕ × Frame)) (k page : ℕ) (f : Frame) → IsDistinct nat_eq (keys_of es) → slice_get es k ≡ Some (page, f) → frame_in es page ≡ Some f
frame_of_got [] k page f distinct is = absurd (cc is)
frame_of_got (e ∷ es) zero page f distinct is =
    let same : e ≡ (page, f) = cc is in
    if_true (page == e.0) (Some e.1) (frame_in es page) (ap (λ (x : ℕ × Frame). page == x.0) same ∙ itself page) ∙ ap (λ (x : ℕ × Frame). Some x.1) same
frame_of_got (e ∷ es) (suc k) page f distinct is =
    let rest = frame_of_got es k page f (IsDistinct-tail nat_eq e.0 (keys_of es) distinct) is in
    if_false (page == e.0) (Some e.1) (frame_in es page) (first_apart e.0 e.1 es page f distinct rest) ∙ rest

-- and the page at the next place is the one behind it.
pub next_page : (es : List (ℕ × Frame)) (k page : ℕ) (f : Frame) → IsDistinct nat_eq (keys_of es) → slice_get es k ≡ Some (page, f) → page_behind page es ≡ option_map (λ e. e.0) (slice_get es (suc k))
next_page [] k page f distinct is = absurd (cc is)
next_page (e ∷ es) zero page f distinct is =
    let same : e ≡ (page, f) = cc is in
    if_true (page == e.0) (option_map (λ x. x.0) (slice_get es 0)) (page_behind page es) (ap (λ (x : ℕ × Frame). page == x.0) same ∙ itself page)
next_page (e ∷ es) (suc k) page f distinct is =
    let tail = IsDistinct-tail nat_eq e.0 (keys_of es) distinct in
    if_false (page == e.0) (option_map (λ x. x.0) (slice_get es 0)) (page_behind page es) (first_apart e.0 e.1 es page f distinct (frame_of_got es k page f tail is))
    ∙ next_page es k page f tail is

-- the entries from a place on
pub rest_from : (es : List (ℕ × Frame)) (k : ℕ) (e : ℕ × Frame) → slice_get es k ≡ Some e → drop k es ≡ e ∷ drop (suc k) es
rest_from [] k e is = absurd (cc is)
rest_from (f ∷ es) zero e is = let same : f ≡ e = cc is in ap (λ (x : ℕ × Frame). x ∷ es) same
rest_from (f ∷ es) (suc k) e is = rest_from es k e is

pub none_from : (es : List (ℕ × Frame)) (k : ℕ) → option_map (λ e. e.0) (slice_get es k) ≡ None → drop k es ≡ []
none_from [] zero is = refl
none_from [] (suc k) is = refl
none_from (f ∷ es) zero is = absurd (cc is)
none_from (f ∷ es) (suc k) is = none_from es k is

pub no_page : (o : Option ℕ) → ((page : ℕ) → o ≡ Some page → ⊥) → o ≡ None
no_page None not = refl
no_page (Some page) not = absurd (not page refl)
