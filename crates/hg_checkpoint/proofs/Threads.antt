-- The threads of a root are those that its segments name.
use Rattle.std.proofs.Common.{◌≡◌, inl, inr, ◌+◌, ◌<◌, ◌≤◌, ◌∙◌, ◌==◌, ◌||◌, ℕ, zero, suc, Bool, true, false, cond, List, [], ◌∷◌, length, map, filter, take, get_or, refl, sym, ap, arith, rules}
use Rattle.std.specs.List.{list_any, range_with_len}
use Rattle.std.proofs.lemmas.Bool.{cases_lt}
use Rattle.std.proofs.lemmas.List.Folds.{list_any_none}
use Rattle.std.proofs.lemmas.Option.{slice_get-get_or}
use Rattle.hg_graph.specs.Graph.{names}
use Rattle.hg_graph.specs.Restoring.{AreSegments}
use Rattle.hg_model.specs.declared.segment.Segment.{Segment}
use Rattle.hg_model.specs.declared.thread.ThreadState.{ThreadState}
use Rattle.hg_pages.proofs.Rising.{above_apart, below_apart}
use Rattle.hg_root.specs.Lawful.{IsLawfulHead, named_below, named_threads}
use Rattle.hg_root.specs.Parts.{Parts}
use Rattle.hg_root.proofs.LastSegments.{no_such_thread}

-- whether the number is among these
abbrev has : List ℕ → ℕ → Bool
has numbers t = list_any (λ n. n == t) numbers

passed : (b : Bool) (a t : ℕ) (rest : List ℕ) (r : Bool) → (a == t) ≡ false → has rest t ≡ r → has (cond b (a ∷ rest) rest) t ≡ r
passed true a t rest r apart is = ap (λ (c : Bool). c || has rest t) apart ∙ is
passed false a t rest r apart is = is

met : (b : Bool) (a t : ℕ) (rest : List ℕ) → a ≡ t → has rest t ≡ false → has (cond b (a ∷ rest) rest) t ≡ b
met true a t rest same none = let here : (a == t) ≡ true = grind (rules, same) in ap (λ (c : Bool). c || has rest t) here
met false a t rest same none = none

module _ (p : ℕ → Bool) (t : ℕ) where
  below : (a n : ℕ) → t < a → has (filter p (range_with_len a n)) t ≡ false
  below a zero lt = refl
  below a (suc n) lt = passed (p a) a t (filter p (range_with_len (a + 1) n)) false (above_apart t a lt) (below (a + 1) n (omega (arith, lt)))

  beyond : (a n : ℕ) → a + n ≤ t → has (filter p (range_with_len a n)) t ≡ false
  beyond a zero le = refl
  beyond a (suc n) le = passed (p a) a t (filter p (range_with_len (a + 1) n)) false (below_apart a t (omega (arith, le))) (beyond (a + 1) n (omega (arith, le)))

  among : (a n : ℕ) → a ≤ t → t < a + n → has (filter p (range_with_len a n)) t ≡ p t
  among a zero le lt = absurd (omega (arith, le, lt))
  among a (suc n) le lt =
      elim (cases_lt a t) [
        | inl less ↦ passed (p a) a t (filter p (range_with_len (a + 1) n)) (p t) (below_apart a t less) (among (a + 1) n (omega (arith, less)) (omega (arith, lt)))
        | inr more ↦ let same : a ≡ t = omega (arith, le, more) in met (p a) a t (filter p (range_with_len (a + 1) n)) same (below (a + 1) n (omega (arith, same))) ∙ ap p same
      ]

none_names : (segments : List Segment) (n t : ℕ) → ((k : ℕ) (d : Segment) → k < length segments → (get_or segments k d).thread < n) → n ≤ t → names segments t ≡ false
none_names segments n t each le =
    list_any_none (λ (s : Segment). s.thread == t) segments (λ k d lt. below_apart (get_or segments k d).thread t (let less = each k d lt in omega (arith, less, le)))

named : (segments : List Segment) (n t : ℕ) → ((k : ℕ) (d : Segment) → k < length segments → (get_or segments k d).thread < n) → has (named_below segments n) t ≡ names segments t
named segments n t each =
    elim (cases_lt t n) [
      | inl less ↦ among (names segments) t 0 n (omega arith) (omega (arith, less))
      | inr more ↦ beyond (names segments) t 0 n (omega (arith, more)) ∙ sym (none_names segments n t each more)
    ]

each_below : (segments : List Segment) → AreSegments segments → (k : ℕ) (d : Segment) → k < length segments → (get_or segments k d).thread < 1024
each_below segments are k d lt =
    let s = get_or segments k d in
    elim (cases_lt s.thread 1024) [
      | inl less ↦ less
      | inr more ↦ absurd (no_such_thread (take k segments) s more (are k s (slice_get-get_or segments k d lt)))
    ]

numbered : (threads : List ThreadState) (t : ℕ) → list_any (λ x. x.number == t) threads ≡ has (map (λ (x : ThreadState). x.number) threads) t
numbered [] t = refl
numbered (x ∷ threads) t = ap (λ (b : Bool). x.number == t || b) (numbered threads t)

pub are_named : (root : Parts) → IsLawfulHead root → (t : ℕ) → list_any (λ x. x.number == t) root.threads ≡ names root.segments t
unfolding named_threads
are_named root lawful t = numbered root.threads t ∙ ap (λ (l : List ℕ). has l t) lawful.named ∙ named root.segments 1024 t (each_below root.segments lawful.segments)
