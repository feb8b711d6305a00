-- The threads that segments name, in order, and the last numbers of sources.
use Rattle.std.proofs.Common.{◌≡◌, inl, inr, ℕ, suc, zero, ◌+◌, ◌<◌, Bool, true, false, cond, eqb, List, [], ◌∷◌, ◌++◌, length, filter, drop, get_or, set, Option, None, refl, sym, ap, ◌∙◌, arith, add-one, get_or-set_same, get_or-set_other, drop-cons, replicate}
use Rattle.std.specs.Prelude.{slice_index_or, is_some}
use Rattle.std.specs.List.{range_with_len}
use Rattle.std.proofs.lemmas.Bool.{cases_eq, eq-eqb, ne_eqb}
use Rattle.std.proofs.lemmas.List.{drop_all}
use Rattle.std.proofs.lemmas.List.Elements.{filter-append}
use Rattle.hg_model.specs.declared.segment.Segment.{Segment}
use Rattle.hg_graph.specs.Graph.{names}
use Rattle.hg_graph.specs.Restoring.{former}
use Rattle.hg_root.specs.declared.parts.SourceCount.{SourceCount}
use Rattle.hg_root.specs.Checking.{HaveLast, last_number}
use Rattle.hg_root.specs.Last.{IsLastTable}
use Rattle.hg_root.specs.Lawful.{named_below, named_threads}

range_more : (a n j : ℕ) → a + n ≡ j → range_with_len a (suc n) ≡ range_with_len a n ++ j ∷ []
range_more a zero j e = ap (λ (k : ℕ). k ∷ []) (let same : a ≡ j = omega arith in same)
range_more a (suc n) j e = ap (λ (xs : List ℕ). a ∷ xs) (range_more (a + 1) n j (omega arith))

named_more : (segments : List Segment) (t : ℕ) → named_below segments (t + 1) ≡ named_below segments t ++ cond (names segments t) (t ∷ []) []
named_more segments t =
    ap (λ (n : ℕ). named_below segments n) (add-one t) ∙ ap (filter (names segments)) (range_more 0 t t (omega arith)) ∙ filter-append (names segments) (range_with_len 0 t) (t ∷ [])

some_former : (segments : List Segment) (t : ℕ) (b : Bool) → names segments t ≡ b → is_some (former segments t) ≡ b
some_former segments t true e = rw e refl
some_former segments t false e = rw e refl

module _ (segments : List Segment) (lasts : List (Option ℕ)) (table : IsLastTable segments lasts) (t : ℕ) (within : t < 1024) (now : List ℕ) where
  named_is : (b : Bool) → is_some (slice_index_or lasts t None) ≡ b → names segments t ≡ b
  named_is b e = sym (some_former segments t (names segments t) refl) ∙ ap (λ (f : Option ℕ). is_some f) (sym (table.each t within)) ∙ e

  pub one_more : (new : List ℕ) (b : Bool) → now ≡ named_below segments t → new ≡ now ++ cond b (t ∷ []) [] → b ≡ is_some (slice_index_or lasts t None) → new ≡ named_below segments (t + 1)
  one_more new b is grown e =
      grown ∙ ap (λ (xs : List ℕ). xs ++ cond b (t ∷ []) []) is ∙ sym (named_more segments t ∙ ap (λ c. named_below segments t ++ cond c (t ∷ []) []) (named_is b (sym e)))

pub all_named : (segments : List Segment) (t : ℕ) (now : List ℕ) → t ≡ 1024 → now ≡ named_below segments t → now ≡ named_threads segments
unfolding named_threads
all_named segments t now e is = is ∙ ap (λ (n : ℕ). named_below segments n) e

-- the last number of the source before those that are done
pub last_more : (sources : List SourceCount) (i : ℕ) (d : SourceCount) (last : List ℕ) → i < length sources → (get_or sources i d).source < length last → HaveLast (drop (i + 1) sources) last
    → HaveLast (drop i sources) (set last (get_or sources i d).source (get_or sources i d).last)
last_more sources i d last within small have source =
    let s = get_or sources i d in
    let split : drop i sources ≡ s ∷ drop (i + 1) sources = drop-cons sources i d within ∙ ap (λ (n : ℕ). s ∷ drop n sources) (sym (add-one i)) in
    let goal : last_number (drop i sources) source ≡ cond (eqb s.source source) s.last (last_number (drop (i + 1) sources) source) = ap (λ (xs : List SourceCount). last_number xs source) split in
    elim (cases_eq s.source source) [
      | inl same ↦
          ap (λ (n : ℕ). get_or (set last s.source s.last) n 0) (sym same) ∙ get_or-set_same last s.source s.last 0 small
          ∙ sym (goal ∙ ap (λ b. cond b s.last (last_number (drop (i + 1) sources) source)) (eq-eqb s.source source same))
      | inr other ↦
          get_or-set_other last s.source source s.last 0 (λ e. other (sym e)) ∙ have source
          ∙ sym (goal ∙ ap (λ b. cond b s.last (last_number (drop (i + 1) sources) source)) (ne_eqb s.source source other))
    ]

pub zeros : (n i : ℕ) → ◌≡◌ {A = ℕ} (get_or (replicate n 0) i 0) 0
zeros zero i = refl
zeros (suc n) zero = refl
zeros (suc n) (suc i) = zeros n i

pub nothing_done : (sources : List SourceCount) → drop (length sources) sources ≡ []
nothing_done sources = drop_all (length sources) sources (omega arith)
