-- Each segment of a thread reaches the thread's present one.
use Rattle.std.proofs.Common.{◌≡◌, ◌⊎◌, inl, inr, ℕ, zero, suc, ◌+◌, ◌≤◌, ◌<◌, Bool, true, cond, ◌&&◌, nat_eq, nat_lt, List, [], ◌∷◌, length, take, get_or, Contains, Some, None, sym, ap, ◌∙◌, subst, arith, eqb-true}
use Rattle.std.proofs.lemmas.Bool.{and_parts, cases_eq, cases_lt, eq-eqb, false≢true, ltb-true, ne_eqb, or_left, or_right}
use Rattle.std.proofs.lemmas.List.{get_or_past, length-take-le, take_all, take_more}
use Rattle.std.proofs.lemmas.List.Folds.{Any-from_list_any}
use Rattle.std.proofs.lemmas.Option.{slice_get-get_or}
use Rattle.std.specs.List.{AllByRecursion, list_any}
use Rattle.hg_model.specs.declared.segment.Segment.{Segment}
use Rattle.hg_model.specs.Paths.{HasEdge, IsRising, Itself, Reaches, before, reaches}
use Rattle.hg_model.specs.Restoring.{marks_lawfully}
use Rattle.hg_model.specs.Segments.{of_thread, present, thread_at}
use Rattle.hg_model.proofs.Graph.{goes_on, reaches_is_path}
use Rattle.hg_model.proofs.Owners.{present_push}
use Rattle.hg_graph.specs.Graph.{names}
use Rattle.hg_graph.specs.Restoring.{AreSegments, are_predecessors, former, has_former, has_thread}

each_below : (n : ℕ) (xs : List ℕ) → are_predecessors n xs ≡ true → AllByRecursion (λ x. x < n) xs
each_below n [] h = tt
each_below n (a ∷ []) h = (ltb-true a n h, tt)
each_below n (a ∷ b ∷ []) h =
    let parts = and_parts (nat_lt a b) (nat_lt b n) h in
    let first = ltb-true a b parts.0 in
    let second = ltb-true b n parts.1 in
    (omega (arith, first, second), (second, tt))
each_below n (a ∷ b ∷ d ∷ xs) h = absurd (false≢true h)

-- a number that is said to be among others stands there
among : (n : ℕ) (xs : List ℕ) → list_any (λ k. nat_eq k n) xs ≡ true → Contains xs n
among n xs h = let found = Any-from_list_any (λ k. nat_eq k n) xs h in subst (Contains xs) (eqb-true found.1 n found.4) (found.0, found.2, found.3)

-- a segment of the thread stands among the first k
named : (t : ℕ) (segments : List Segment) (k s : ℕ) → s < k → s < length segments → thread_at segments s ≡ t → names (take k segments) t ≡ true
named t [] k s lt within is = absurd (omega (arith, within))
named t (x ∷ xs) zero s lt within is = absurd (omega (arith, lt))
named t (x ∷ xs) (suc k) zero lt within is = or_left (nat_eq x.thread t) (names (take k xs) t) (eq-eqb x.thread t is)
named t (x ∷ xs) (suc k) (suc s) lt within is = or_right (nat_eq x.thread t) (names (take k xs) t) (named t xs k s (omega (arith, lt)) (omega (arith, within)) is)

module _ (segments : List Segment) (are : AreSegments segments) where
  -- what segment k says of those right before it
  linked : (k : ℕ) → k < length segments → (are_predecessors k (before segments k) ≡ true) × (has_former (former (take k segments) (thread_at segments k)) (before segments k) ≡ true)
  linked k lt =
      let s = get_or segments k (of_thread 0 []) in
      let earlier = take k segments in
      let stands = are k s (slice_get-get_or segments k (of_thread 0 []) lt) in
      let links = (and_parts (has_thread (length earlier) s.thread) _ stands).1 in
      let parts = and_parts (are_predecessors (length earlier) s.before) (has_former (former earlier s.thread) s.before && marks_lawfully earlier s.mark s) links in
      (ap (λ (n : ℕ). are_predecessors n s.before) (sym (length-take-le k segments (omega (arith, lt)))) ∙ parts.0, (and_parts (has_former (former earlier s.thread) s.before) (marks_lawfully earlier s.mark s) parts.1).0)

  edges_rise : IsRising segments
  edges_rise g = pick (cases_lt g (length segments))
    where
      pick : (g < length segments) ⊎ (length segments ≤ g) → AllByRecursion (λ x. x < g) (before segments g)
      pick (inl lt) = each_below g (before segments g) (linked g lt).0
      pick (inr past) = subst (λ (s : Segment). AllByRecursion (λ x. x < g) s.before) (sym (get_or_past segments g (of_thread 0 []) past)) tt

  -- the thread's former segment stands right before its next one
  former_before : (t k s : ℕ) → k < length segments → thread_at segments k ≡ t → s < k → thread_at segments s ≡ t → HasEdge segments (present (take k segments) t) k
  former_before t k s within own lt is =
      let some = named t segments k s lt (omega (arith, lt, within)) is in
      let old = subst (λ (u : ℕ). has_former (former (take k segments) u) (before segments k) ≡ true) own (linked k within).1 in
      among (present (take k segments) t) (before segments k) (subst (λ (b : Bool). has_former (cond b (Some (present (take k segments) t)) None) (before segments k) ≡ true) some old)

  -- the thread's present segment among the first k + 1
  next_present : (t k : ℕ) → k < length segments → present (take (suc k) segments) t ≡ cond (nat_eq (thread_at segments k) t) k (present (take k segments) t)
  next_present t k lt =
      let next : suc k ≡ k + 1 = omega arith in
      ap (λ (n : ℕ). present (take n segments) t) next ∙ ap (λ (xs : List Segment). present xs t) (take_more segments k (of_thread 0 []) lt)
      ∙ present_push (take k segments) (get_or segments k (of_thread 0 [])) t
      ∙ ap (λ (n : ℕ). cond (nat_eq (thread_at segments k) t) n (present (take k segments) t)) (length-take-le k segments (omega (arith, lt)))

  -- one segment further on
  reaches_next : (t k s : ℕ) → k < length segments → s ≤ k → thread_at segments s ≡ t → (s < k → Reaches segments s (present (take k segments) t)) → Reaches segments s (present (take (suc k) segments) t)
  reaches_next t k s within le is so_far = subst (Reaches segments s) (sym (next_present t k within)) (pick (cases_eq s k) (cases_eq (thread_at segments k) t))
    where
      next : Bool → ℕ
      next own = cond own k (present (take k segments) t)

      pick : (s ≡ k) ⊎ (s ≡ k → ⊥) → (thread_at segments k ≡ t) ⊎ (thread_at segments k ≡ t → ⊥) → Reaches segments s (next (nat_eq (thread_at segments k) t))
      pick (inl same) either = subst (λ (b : Bool). Reaches segments s (next b)) (sym (eq-eqb (thread_at segments k) t (ap (thread_at segments) (sym same) ∙ is))) (Itself same)
      pick (inr other) (inl own) =
          let lt : s < k = omega (arith, le, other) in
          subst (λ (b : Bool). Reaches segments s (next b)) (sym (eq-eqb (thread_at segments k) t own)) (goes_on segments s (present (take k segments) t) k (so_far lt) (former_before t k s within own lt is))
      pick (inr other) (inr foreign) = subst (λ (b : Bool). Reaches segments s (next b)) (sym (ne_eqb (thread_at segments k) t foreign)) (so_far (omega (arith, le, other)))

  reaches_among : (t k s : ℕ) → k ≤ length segments → s < k → thread_at segments s ≡ t → Reaches segments s (present (take k segments) t)
  reaches_among t zero s within lt is = absurd (omega (arith, lt))
  reaches_among t (suc k) s within lt is = reaches_next t k s (omega (arith, within)) (omega (arith, lt)) is (λ earlier. reaches_among t k s (omega (arith, within)) earlier is)

  pub reaches_present : (s t : ℕ) → s < length segments → thread_at segments s ≡ t → reaches segments s (present segments t) ≡ true
  reaches_present s t lt is =
      (reaches_is_path segments edges_rise s (present segments t)).1
      (subst (λ (xs : List Segment). Reaches segments s (present xs t)) (take_all (length segments) segments (omega arith)) (reaches_among t (length segments) s (omega arith) lt is))
