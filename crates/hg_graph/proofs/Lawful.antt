-- Segments that obey the rules of a root: their edges rise, and each thread's stand in line.
use Rattle.std.proofs.Common.{◌≡◌, ℕ, zero, suc, ◌+◌, ◌<◌, ◌≤◌, Bool, true, false, cond, not, ◌&&◌, nat_eq, nat_lt, Some, None, replicate, List, [], ◌∷◌, length, take, set, get_or, Contains, refl, sym, ap, ◌∙◌, subst, ⊎_elim, arith, length-set, get_or-set_same, get_or-set_other}
use Rattle.std.proofs.lemmas.Bool.{false≢true, and_parts, cases_eq, eq-eqb, eqb-true, ne_eqb, ltb-true, not-true}
use Rattle.std.proofs.lemmas.List.{take_more, take_all, length-take-le, length-replicate, get_or-replicate}
use Rattle.std.proofs.lemmas.Option.{slice_get-get_or}
use Rattle.std.specs.List.{AllByRecursion}
use Rattle.hg_model.specs.declared.segment.Segment.{Segment}
use Rattle.hg_model.specs.declared.segment.Mark.{Mark}
use Rattle.hg_model.specs.declared.segment.Mark.TheVariants.{Plain, Sent, Got}
use Rattle.hg_model.specs.Messages.{was_sent}
use Rattle.hg_model.specs.Restoring.{is_behind_own, marks_lawfully}
use Rattle.hg_model.specs.Segments.{of_thread, thread_at, present}
use Rattle.hg_model.specs.Paths.{IsRising, before}
use Rattle.hg_model.proofs.Graph.{rising_append}
use Rattle.hg_model.proofs.Owners.{present_push}
use Rattle.hg_graph.specs.Graph.{names}
use Rattle.hg_graph.specs.Kept.{IsInLine, IsKept, IsUnvisited}
use Rattle.hg_graph.specs.Restoring.{AreSegments, stands_behind, has_thread, are_predecessors, has_former, former}
use Rattle.hg_graph.proofs.Opening.{in_line_push}
use Rattle.hg_graph.proofs.Sweeping.{contains_from}

below_it : (n : ℕ) (before : List ℕ) → are_predecessors n before ≡ true → AllByRecursion (λ x. x < n) before
below_it n [] h = tt
below_it n (a ∷ []) h = (ltb-true a n h, tt)
below_it n (a ∷ b ∷ []) h =
    let parts = and_parts (nat_lt a b) (nat_lt b n) h in
    let first = ltb-true a b parts.0 in
    let second = ltb-true b n parts.1 in
    (omega arith, (second, tt))
below_it n (a ∷ b ∷ d ∷ before) h = absurd (false≢true h)

some_before : (n : ℕ) (before : List ℕ) → are_predecessors n before ≡ true → 0 < n → 0 < length before
some_before n [] h more = let none = eqb-true n 0 h in absurd (omega arith)
some_before n (a ∷ before) h more = omega arith

few_before : (n : ℕ) (before : List ℕ) → are_predecessors n before ≡ true → length before ≤ 2
few_before n [] h = omega arith
few_before n (a ∷ []) h = omega arith
few_before n (a ∷ b ∷ []) h = omega arith
few_before n (a ∷ b ∷ d ∷ before) h = absurd (false≢true h)

own_former : (earlier : List Segment) (t : ℕ) (before : List ℕ) → has_former (former earlier t) before ≡ true → names earlier t ≡ true → Contains before (present earlier t)
own_former earlier t before h named =
    contains_from before (present earlier t) (subst (λ b. has_former (cond b (Some (present earlier t)) None) before ≡ true) named h)

-- what a segment that may stand behind others has
pub record Standing (earlier : List Segment) (s : Segment) : Type 0 where
  pub thread : s.thread < 1024
  pub first : length earlier ≡ 0 → s.thread ≡ 0
  pub below : AllByRecursion (λ x. x < length earlier) s.before
  pub some : 0 < length earlier → 0 < length s.before
  pub few : length s.before ≤ 2
  pub own : names earlier s.thread ≡ true → Contains s.before (present earlier s.thread)
  pub mark : marks_lawfully earlier s.mark s ≡ true

small : (n t : ℕ) → has_thread n t ≡ true → (t < 1024) × (n ≡ 0 → t ≡ 0)
small n t h =
    ⊎_elim
    (λ same. let lt = ltb-true t 1 (subst (λ b. nat_lt t (cond b 1 1024) ≡ true) (eq-eqb n 0 same) h) in (omega arith, λ is. omega arith))
    (λ other. (ltb-true t 1024 (subst (λ b. nat_lt t (cond b 1 1024) ≡ true) (ne_eqb n 0 other) h), λ is. absurd (other is)))
    (cases_eq n 0)

pub standing : (earlier : List Segment) (s : Segment) → stands_behind earlier s ≡ true → Standing earlier s
standing earlier s h =
    let parts = and_parts (has_thread (length earlier) s.thread) (are_predecessors (length earlier) s.before && (has_former (former earlier s.thread) s.before && marks_lawfully earlier s.mark s)) h in
    let others = and_parts (are_predecessors (length earlier) s.before) (has_former (former earlier s.thread) s.before && marks_lawfully earlier s.mark s) parts.1 in
    let last = and_parts (has_former (former earlier s.thread) s.before) (marks_lawfully earlier s.mark s) others.1 in
    record {
      thread = (small (length earlier) s.thread parts.0).0;
      first = (small (length earlier) s.thread parts.0).1;
      below = below_it (length earlier) s.before others.0;
      some = some_before (length earlier) s.before others.0;
      few = few_before (length earlier) s.before others.0;
      own = own_former earlier s.thread s.before last.0;
      mark = last.1;
    }

stands_at : (segments : List Segment) → AreSegments segments → (k : ℕ) → k < length segments → Standing (take k segments) (get_or segments k (of_thread 0 []))
stands_at segments lawful k lt = standing (take k segments) (get_or segments k (of_thread 0 [])) (lawful k (get_or segments k (of_thread 0 [])) (slice_get-get_or segments k (of_thread 0 []) lt))

pub thread_small : (segments : List Segment) → AreSegments segments → (s : ℕ) → s < length segments → thread_at segments s < 1024
thread_small segments lawful s lt = (stands_at segments lawful s lt).thread

pub first_thread : (segments : List Segment) → AreSegments segments → 0 < length segments → thread_at segments 0 ≡ 0
first_thread segments lawful some = (stands_at segments lawful 0 some).first refl

-- a message that a segment sends was not sent before
pub sent_anew : (segments : List Segment) → AreSegments segments → (n k : ℕ) → n < length segments → (get_or segments n (of_thread 0 [])).mark ≡ Sent k → was_sent (take n segments) k ≡ false
sent_anew segments lawful n k lt is =
    not-true (was_sent (take n segments) k)
    (and_parts (not (was_sent (take n segments) k)) _ (subst (λ m. marks_lawfully (take n segments) m (get_or segments n (of_thread 0 [])) ≡ true) is (stands_at segments lawful n lt).mark)).0

-- a message that a segment receives was sent before
pub got_behind : (segments : List Segment) → AreSegments segments → (n k : ℕ) → n < length segments → (get_or segments n (of_thread 0 [])).mark ≡ Got k → was_sent (take n segments) k ≡ true
got_behind segments lawful n k lt is =
    (and_parts (was_sent (take n segments) k) _ (subst (λ m. marks_lawfully (take n segments) m (get_or segments n (of_thread 0 [])) ≡ true) is (stands_at segments lawful n lt).mark)).0

-- segment 0 neither sends nor receives
pub first_is_plain : (segments : List Segment) → AreSegments segments → 0 < length segments → (get_or segments 0 (of_thread 0 [])).mark ≡ Plain
first_is_plain segments lawful some = by s.mark refl (below_none s.before (stands_at segments lawful 0 some).below) (stands_at segments lawful 0 some).mark
  where
    s : Segment
    s = get_or segments 0 (of_thread 0 [])

    below_none : (before : List ℕ) → AllByRecursion (λ x. x < 0) before → before ≡ []
    below_none [] h = refl
    below_none (x ∷ before) h = absurd (let lt : x < 0 = h.0 in omega arith)

    by : (m : Mark) → s.mark ≡ m → s.before ≡ [] → marks_lawfully [] m s ≡ true → s.mark ≡ Plain
    by Plain e is h = e
    by (Got j) e is h = absurd (false≢true h)
    by (Sent j) e is h = absurd (false≢true (subst (λ before. is_behind_own [] s.thread before ≡ true) is h))

pub behind_some : (segments : List Segment) → AreSegments segments → (s : ℕ) → s < length segments → 0 < s → 0 < length (before segments s)
behind_some segments lawful s lt more = (stands_at segments lawful s lt).some (let len = length-take-le s segments (omega arith) in omega arith)

pub behind_few : (segments : List Segment) → AreSegments segments → (s : ℕ) → s < length segments → length (before segments s) ≤ 2
behind_few segments lawful s lt = (stands_at segments lawful s lt).few

-- the edges of segments rise, and they are in line
abbrev pub IsOrdered : List Segment → Type 0
IsOrdered segments = IsRising segments × IsInLine segments

ordered_upto : (segments : List Segment) → AreSegments segments → (k : ℕ) → k ≤ length segments → IsOrdered (take k segments)
ordered_upto segments lawful zero le = (λ g. none g, λ s g upto lt same. absurd (omega arith))
  where
    none : (g : ℕ) → AllByRecursion (λ x. x < g) (get_or [] g (of_thread 0 [])).before
    none zero = tt
    none (suc g) = tt
ordered_upto segments lawful (suc k) le =
    let so_far = ordered_upto segments lawful k (omega arith) in
    let s = get_or segments k (of_thread 0 []) in
    let stands = stands_at segments lawful k (omega arith) in
    let more : k + 1 ≡ suc k = omega arith in
    subst IsOrdered (sym (take_more segments k (of_thread 0 []) (omega arith)) ∙ ap (λ n. take n segments) more)
    (rising_append (take k segments) (s ∷ []) so_far.0 (stands.below, tt), in_line_push (take k segments) s so_far.0 stands.below so_far.1 stands.own)

ordered : (segments : List Segment) → AreSegments segments → IsOrdered segments
ordered segments lawful = subst IsOrdered (take_all (length segments) segments (omega arith)) (ordered_upto segments lawful (length segments) (omega arith))

pub lawful_rising : (segments : List Segment) → AreSegments segments → IsRising segments
lawful_rising segments lawful = (ordered segments lawful).0

pub lawful_in_line : (segments : List Segment) → AreSegments segments → IsInLine segments
lawful_in_line segments lawful = (ordered segments lawful).1

-- The table of present segments is that of the first k.
pub record IsTable (segments : List Segment) (k : ℕ) (table : List ℕ) : Type 0 where
  pub rows : length table ≡ 1024
  pub each : (t : ℕ) → t < 1024 → get_or table t 0 ≡ present (take k segments) t

pub tabled : (segments : List Segment) (k t : ℕ) (table : List ℕ) → IsTable segments k table → k < length segments → t ≡ thread_at segments k → t < 1024 → IsTable segments (k + 1) (set table t k)
tabled segments k t table w lt is small =
    record {
      rows = length-set table t k ∙ w.rows;
      each = λ u u_in. ⊎_elim
          (λ same. subst (λ v. get_or (set table t k) v 0 ≡ present (take (k + 1) segments) v) (sym same)
          (get_or-set_same table t k 0 (let rows = w.rows in omega arith) ∙ sym (more t ∙ ap (λ b. cond b (length (take k segments)) (present (take k segments) t)) (eq-eqb _ t (sym is)) ∙ length-take-le k segments (omega arith))))
          (λ other. get_or-set_other table t u k 0 other ∙ w.each u u_in
          ∙ sym (more u ∙ ap (λ b. cond b (length (take k segments)) (present (take k segments) u)) (ne_eqb _ u (λ e. other (sym e ∙ sym is)))))
          (cases_eq u t);
    }
  where
    more : (u : ℕ) → present (take (k + 1) segments) u ≡ cond (nat_eq (thread_at segments k) u) (length (take k segments)) (present (take k segments) u)
    more u = ap (λ ss. present ss u) (take_more segments k (of_thread 0 []) lt) ∙ present_push (take k segments) (get_or segments k (of_thread 0 [])) u

pub first_table : (segments : List Segment) (table : List ℕ) (n : ℕ) → n ≡ 1024 → table ≡ replicate n 0 → IsTable segments 0 table
first_table segments table n is e = record { rows = ap length e ∙ length-replicate n 0 ∙ is; each = λ t lt. ap (λ u. get_or u t 0) e ∙ get_or-replicate n t 0 0 (omega arith) }

pub whole_table : (segments : List Segment) (k : ℕ) (table : List ℕ) → IsTable segments k table → length segments ≤ k → (t : ℕ) → t < 1024 → get_or table t 0 ≡ present segments t
whole_table segments k table w le t lt = w.each t lt ∙ ap (λ ss. present ss t) (take_all k segments le)

-- the fields of a graph that was made of its segments
pub restored : (segments : List Segment) (table : List ℕ) (visited : List Bool) → 0 < length segments → length segments ≤ 1048576 → AreSegments segments → length table ≡ 1024 → ((t : ℕ) → t < 1024 → get_or table t 0 ≡ present segments t) → visited ≡ replicate (length segments) false →
    IsKept segments table visited 0 0 true
restored segments table visited some few lawful rows each is =
    record {
      some = some;
      few = few;
      rising = lawful_rising segments lawful;
      in_line = lawful_in_line segments lawful;
      threads = rows;
      present = each;
      visited_len = ap length is ∙ length-replicate (length segments) false;
      unvisited = λ i. ap (λ v. get_or v i false) is ∙ none (length segments) i;
      to_in = some;
      answer_is = refl;
    }
  where
    none : (n : ℕ) → IsUnvisited (replicate n false)
    none zero i = refl
    none (suc n) zero = refl
    none (suc n) (suc i) = none n i
