-- The clocks of a restored graph, made from the front: what holds at each segment.
use Rattle.std.proofs.Common.{◌≡◌, ◌≢◌, ◌⊎◌, inl, inr, ℕ, zero, suc, ◌+◌, ◌-◌, ◌<◌, ◌≤◌, cond, replicate, List, [], ◌∷◌, ◌++◌, length, set, get_or, Contains, refl, sym, ap, ◌∙◌, subst, ⊎_elim, arith, length-set, get_or-set_same, get_or-set_other}
use Rattle.std.proofs.lemmas.Bool.{cases_eq, eq-eqb, ne_eqb}
use Rattle.std.proofs.lemmas.List.{get_or_append_left, get_or_push, length_push, length-replicate}
use Rattle.hg_model.specs.declared.segment.Segment.{Segment}
use Rattle.hg_model.specs.Segments.{thread_at, present}
use Rattle.hg_model.specs.Paths.{IsRising, before}
use Rattle.hg_model.proofs.Graph.{member_below}
use Rattle.hg_graph.specs.Clocks.{IsClock, AreClocks}
use Rattle.hg_graph.specs.Kept.{ArePresent}
use Rattle.hg_graph.specs.Needed.{AreBehind, AreEnds, AreUses, AreLastUses, AreNeeded, KeepsNeeded, AreApart, AreMoved, clock_at}
use Rattle.hg_graph.proofs.Clocking.{first_clock}
use Rattle.hg_graph.proofs.Opening.{present_in, present_of_own}

-- the first and the last of one or two
pub ends_of : (xs : List ℕ) (d e a b : ℕ) → 0 < length xs → length xs ≤ 2 → a ≡ get_or xs 0 d → b ≡ get_or xs (length xs - 1) e → AreEnds xs a b
ends_of [] d e a b some few is_a is_b = absurd (omega arith)
ends_of (x ∷ []) d e a b some few is_a is_b = record { first = (0, omega arith, sym is_a); last = (0, omega arith, sym is_b); only = one }
  where
    one : (y : ℕ) → Contains (x ∷ []) y → (y ≡ a) ⊎ (y ≡ b)
    one y (zero, lt, is) = inl (sym is ∙ sym is_a)
    one y (suc n, lt, is) = absurd (let l : suc n < 1 = lt in omega arith)
ends_of (x ∷ z ∷ []) d e a b some few is_a is_b = record { first = (0, omega arith, sym is_a); last = (1, omega arith, sym is_b); only = two }
  where
    two : (y : ℕ) → Contains (x ∷ z ∷ []) y → (y ≡ a) ⊎ (y ≡ b)
    two y (zero, lt, is) = inl (sym is ∙ sym is_a)
    two y (suc zero, lt, is) = inr (sym is ∙ sym is_b)
    two y (suc (suc n), lt, is) = absurd (let l : suc (suc n) < 2 = lt in omega arith)
ends_of (x ∷ z ∷ w ∷ xs) d e a b some few is_a is_b = absurd (let l : suc (suc (suc (length xs))) ≤ 2 = few in omega arith)

-- segment 0 uses none
pub uses_none : (segments : List Segment) (late : List ℕ) → IsRising segments → late ≡ replicate (length segments) 0 → AreUses segments 1 late
uses_none segments late rising is =
    record {
      rows = ap length is ∙ length-replicate (length segments) 0;
      each = λ g a lt has. let less = member_below segments rising a g has in absurd (omega arith);
    }

-- one segment more has noted its use of those before it
pub uses_more : (segments : List Segment) (n a b : ℕ) (late : List ℕ) → AreUses segments n late → AreEnds (before segments n) a b → a < length segments → b < length segments → AreUses segments (n + 1) (set (set late a n) b n)
uses_more segments n a b late w ends a_in b_in =
    record {
      rows = length-set (set late a n) b n ∙ length-set late a n ∙ w.rows;
      each = λ g x lt has. ⊎_elim
          (λ is_b. let e = at_b x is_b in omega arith)
          (λ not_b. ⊎_elim
          (λ is_a. let e = at_a x is_a not_b in omega arith)
          (λ not_a. let e = at_other x not_a not_b in
          let old = w.each g x (earlier g x lt has not_a not_b) has in omega arith)
          (cases_eq x a))
          (cases_eq x b);
    }
  where
    at_b : (x : ℕ) → x ≡ b → get_or (set (set late a n) b n) x 0 ≡ n
    at_b x e = ap (λ i. get_or (set (set late a n) b n) i 0) e ∙ get_or-set_same (set late a n) b n 0 (let rows = w.rows in omega (arith, length-set late a n))

    at_a : (x : ℕ) → x ≡ a → x ≢ b → get_or (set (set late a n) b n) x 0 ≡ n
    at_a x e not_b = get_or-set_other (set late a n) b x n 0 not_b ∙ ap (λ i. get_or (set late a n) i 0) e ∙ get_or-set_same late a n 0 (let rows = w.rows in omega arith)

    at_other : (x : ℕ) → x ≢ a → x ≢ b → get_or (set (set late a n) b n) x 0 ≡ get_or late x 0
    at_other x not_a not_b = get_or-set_other (set late a n) b x n 0 not_b ∙ get_or-set_other late a x n 0 not_a

    earlier : (g x : ℕ) → g < n + 1 → Contains (before segments g) x → x ≢ a → x ≢ b → g < n
    earlier g x lt has not_a not_b =
        ⊎_elim
        (λ same. absurd (⊎_elim not_a not_b (ends.only x (subst (λ m. Contains (before segments m) x) same has))))
        (λ other. omega arith)
        (cases_eq g n)

-- all segments have noted their uses
pub uses_all : (segments : List Segment) (n : ℕ) (late : List ℕ) → AreUses segments n late → length segments ≤ n → AreUses segments (length segments) late
uses_all segments n late w le = record { rows = w.rows; each = λ g a lt has. w.each g a (omega arith) has }

-- one that is needed at the end has no use behind it
pub uses_kept : (segments : List Segment) (p end : ℕ) (late : List ℕ) → AreUses segments (length segments) late → p < length segments → end ≡ length segments → AreUses segments (length segments) (set late p end)
uses_kept segments p end late w p_in is =
    record {
      rows = length-set late p end ∙ w.rows;
      each = λ g a lt has. ⊎_elim
          (λ same. let e : get_or (set late p end) a 0 ≡ end = ap (λ i. get_or (set late p end) i 0) same ∙ get_or-set_same late p end 0 (let rows = w.rows in omega arith) in omega arith)
          (λ other. let e = get_or-set_other late p a end 0 other in let old = w.each g a lt has in omega arith)
          (cases_eq a p);
    }

pub kept_more : (p end : ℕ) (late : List ℕ) (n x : ℕ) → p < length late → end ≡ n → (x ≡ p) ⊎ (n ≤ get_or late x 0) → n ≤ get_or (set late p end) x 0
kept_more p end late n x p_in is either =
    ⊎_elim
    (λ same. let e : get_or (set late p end) x 0 ≡ end = ap (λ i. get_or (set late p end) i 0) same ∙ get_or-set_same late p end 0 p_in in omega arith)
    (λ other. let e = get_or-set_other late p x end 0 other in ⊎_elim (λ same. absurd (other same)) (λ old. omega arith) either)
    (cases_eq x p)

-- segment 0 has the first clock
pub needed_first : (segments : List Segment) (late : List ℕ) (clocks : List (List ℕ)) → 0 < length segments → thread_at segments 0 ≡ 0 → clocks ≡ (1 ∷ []) ∷ [] → AreNeeded segments late 1 clocks
needed_first segments late clocks some of_0 is =
    subst (AreNeeded segments late 1) (sym is)
    (record { rows = refl; each = λ s lt _. let e : 0 ≡ s = omega arith in subst (λ n. IsClock segments n (get_or ((1 ∷ []) ∷ []) n [])) e (first_clock segments some of_0) })

-- a clock that no later segment needs may be let go
pub lets_go : (late : List ℕ) (n p last : ℕ) (clocks : List (List ℕ)) (was now : List ℕ) → p < length clocks → last ≡ get_or late p 0 → was ≡ get_or clocks p [] → (n < last → now ≡ was) → KeepsNeeded late n clocks (set clocks p now)
lets_go late n p last clocks was now p_in is_last is_was same =
    record {
      rows = length-set clocks p now;
      each = λ s lt. ⊎_elim
          (λ here. ap (λ i. get_or (set clocks p now) i []) here ∙ get_or-set_same clocks p now [] p_in
          ∙ same (let e = ap (λ i. get_or late i 0) here in omega arith) ∙ is_was ∙ ap (λ i. get_or clocks i []) (sym here))
          (λ other. get_or-set_other clocks p s now [] other)
          (cases_eq s p);
    }

-- the clocks once segment n has its own
pub needed_more : (segments : List Segment) (late : List ℕ) (n : ℕ) (clocks one two : List (List ℕ)) (clock : List ℕ) → AreNeeded segments late n clocks → KeepsNeeded late n clocks one → KeepsNeeded late n one two → IsClock segments n clock →
    AreNeeded segments late (n + 1) (two ++ clock ∷ [])
needed_more segments late n clocks one two clock w first second own =
    record {
      rows = length_push two clock ∙ ap (λ i. i + 1) len;
      each = λ s lt needed. ⊎_elim
          (λ same. subst (λ i. IsClock segments i (get_or (two ++ clock ∷ []) i [])) (sym same) (subst (IsClock segments n) (sym (get_or_push two clock [] n len)) own))
          (λ other. subst (IsClock segments s) (sym (get_or_append_left two (clock ∷ []) [] s (omega arith) ∙ second.each s (omega arith) ∙ first.each s (omega arith))) (w.each s (omega arith) (omega arith)))
          (cases_eq s n);
    }
  where
    len : length two ≡ n
    len = second.rows ∙ first.rows ∙ w.rows

-- a predecessor's clock is needed
pub needed_at : (segments : List Segment) (late : List ℕ) (n a : ℕ) (clocks : List (List ℕ)) → IsRising segments → AreLastUses segments late → AreNeeded segments late n clocks → n < length segments → Contains (before segments n) a → IsClock segments a (get_or clocks a [])
needed_at segments late n a clocks rising uses w lt has = w.each a (member_below segments rising a n has) (uses.uses.each n a lt has)

pub behind_at : (segments : List Segment) (late : List ℕ) (n : ℕ) (clocks : List (List ℕ)) → IsRising segments → AreLastUses segments late → AreNeeded segments late n clocks → n < length segments → AreBehind segments n clocks
behind_at segments late n clocks rising uses w lt = record { rows = w.rows; each = λ a has. needed_at segments late n a clocks rising uses w lt has }

-- present segments other than segment 0 differ
pub apart_of : (segments : List Segment) (table : List ℕ) → ArePresent segments table → AreApart table
apart_of segments table are t u t_in u_in same more =
    let at_t = are t t_in in
    let at_u = are u u_in in
    sym (present_of_own segments t (omega arith)) ∙ ap (thread_at segments) (sym at_t ∙ same ∙ at_u) ∙ present_of_own segments u (omega arith)

-- the clocks of the present segments, at the places of their threads
pub moved_clocks : (segments : List Segment) (table late : List ℕ) (clocks moved : List (List ℕ)) → 0 < length segments → thread_at segments 0 ≡ 0 → ArePresent segments table → AreLastUses segments late → AreNeeded segments late (length segments) clocks →
    AreMoved table clocks moved → AreClocks segments moved
moved_clocks segments table late clocks moved some of_0 are uses w m =
    record {
      rows = m.rows;
      each = λ t lt. subst (IsClock segments (present segments t)) (sym (m.each t lt ∙ ap (clock_at clocks) (are t lt))) (of_place t lt);
    }
  where
    of_place : (t : ℕ) → t < 1024 → IsClock segments (present segments t) (clock_at clocks (present segments t))
    of_place t lt =
        ⊎_elim
        (λ none. subst (λ p. IsClock segments p (clock_at clocks p)) (sym none) (first_clock segments some of_0))
        (λ other. subst (IsClock segments (present segments t)) (sym (ap (λ b. cond b (1 ∷ []) (get_or clocks (present segments t) [])) (ne_eqb (present segments t) 0 other))) (w.each (present segments t) (present_in segments t some) (uses.ends t lt)))
        (cases_eq (present segments t) 0)

-- One clock more is moved: those to come still stand.
pub record AreStill (table : List ℕ) (n : ℕ) (was now : List (List ℕ)) : Type 0 where
  pub rows : length now ≡ length was
  pub each : (t : ℕ) → n ≤ t → t < 1024 → 0 < get_or table t 0 → get_or now (get_or table t 0) [] ≡ get_or was (get_or table t 0) []

pub still_more : (table : List ℕ) (n p : ℕ) (was now : List (List ℕ)) (left : List ℕ) → AreApart table → n < 1024 → p ≡ get_or table n 0 → AreStill table n was now → AreStill table (n + 1) was (set now p left)
still_more table n p was now left apart n_in is w =
    record {
      rows = length-set now p left ∙ w.rows;
      each = λ t le lt some. get_or-set_other now p (get_or table t 0) left [] (λ same. let e = apart t n lt n_in (same ∙ is) some in omega arith) ∙ w.each t (omega arith) lt some;
    }

pub still_at : (table : List ℕ) (n : ℕ) (was now : List (List ℕ)) → n < 1024 → AreStill table n was now → clock_at now (get_or table n 0) ≡ clock_at was (get_or table n 0)
still_at table n was now n_in w =
    ⊎_elim
    (λ none. is_first now none ∙ sym (is_first was none))
    (λ other. is_other now other ∙ w.each n (omega arith) n_in (omega arith) ∙ sym (is_other was other))
    (cases_eq (get_or table n 0) 0)
  where
    is_first : (clocks : List (List ℕ)) → get_or table n 0 ≡ 0 → clock_at clocks (get_or table n 0) ≡ 1 ∷ []
    is_first clocks none = ap (λ b. cond b (1 ∷ []) (get_or clocks (get_or table n 0) [])) (eq-eqb (get_or table n 0) 0 none)

    is_other : (clocks : List (List ℕ)) → get_or table n 0 ≢ 0 → clock_at clocks (get_or table n 0) ≡ get_or clocks (get_or table n 0) []
    is_other clocks other = ap (λ b. cond b (1 ∷ []) (get_or clocks (get_or table n 0) [])) (ne_eqb (get_or table n 0) 0 other)

-- the clocks that were moved so far
pub record MovedUpto (table : List ℕ) (n : ℕ) (was moved : List (List ℕ)) : Type 0 where
  pub rows : length moved ≡ n
  pub each : (t : ℕ) → t < n → get_or moved t (1 ∷ []) ≡ clock_at was (get_or table t 0)

pub moved_more : (table : List ℕ) (n : ℕ) (was moved : List (List ℕ)) (clock : List ℕ) → MovedUpto table n was moved → clock ≡ clock_at was (get_or table n 0) → MovedUpto table (n + 1) was (moved ++ clock ∷ [])
moved_more table n was moved clock m is =
    record {
      rows = length_push moved clock ∙ ap (λ i. i + 1) m.rows;
      each = λ t lt. ⊎_elim
          (λ same. ap (λ i. get_or (moved ++ clock ∷ []) i (1 ∷ [])) same ∙ get_or_push moved clock (1 ∷ []) n m.rows ∙ is ∙ ap (λ i. clock_at was (get_or table i 0)) (sym same))
          (λ other. get_or_append_left moved (clock ∷ []) (1 ∷ []) t (let rows = m.rows in omega arith) ∙ m.each t (omega arith))
          (cases_eq t n);
    }
