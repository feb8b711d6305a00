-- The last segments of threads, as a loop over the segments finds them.
use Rattle.std.proofs.Common.{◌≡◌, inl, inr, ℕ, ◌+◌, ◌<◌, ◌≤◌, Bool, true, false, cond, ◌&&◌, ◌||◌, eqb, List, [], ◌∷◌, ◌++◌, length, take, get_or, set, slice_get, Option, Some, None, refl, sym, ap, subst, ◌∙◌, arith, length-set, length-take, get_or-set_same, get_or-set_other}
use Rattle.std.specs.Prelude.{slice_index_or}
use Rattle.std.proofs.lemmas.Bool.{and_parts, false≢true, cases_lt, cases_eq, eq-eqb, ne_eqb, ltb-true}
use Rattle.std.proofs.lemmas.Option.{get_or_from_slice_get, slice_get-get_or, slice_get_read, slice_get_within}
use Rattle.std.proofs.lemmas.List.{take_more, take_all}
use Rattle.std.proofs.lemmas.List.Folds.{list_any-append}
use Rattle.hg_model.specs.Restoring.{marks_lawfully}
use Rattle.hg_model.specs.Segments.{present}
use Rattle.hg_model.specs.declared.segment.Mark.{Mark}
use Rattle.hg_model.specs.declared.segment.Mark.TheVariants.{Plain, Sent, Got}
use Rattle.hg_model.specs.declared.segment.Segment.{Segment}
use Rattle.hg_model.proofs.Owners.{present_push}
use Rattle.hg_graph.specs.Graph.{names}
use Rattle.hg_graph.specs.Restoring.{AreSegments, are_predecessors, former, has_former, has_thread, stands_behind}
use Rattle.hg_model.specs.Messages.{Agrees, Messages, at, is_taken, is_there}
use Rattle.hg_rules.specs.Messages.{may_follow}
use Rattle.hg_root.specs.Last.{IsLastTable, may_stand, sends_lawfully}

-- the first k segments are lawful, and the tables have their last ones and their messages
pub record Underway (segments : List Segment) (k : ℕ) (lasts : List (Option ℕ)) (messages : Messages) : Type 0 where
  pub within : k ≤ length segments
  pub table : IsLastTable (take k segments) lasts
  pub agrees : Agrees (take k segments) messages
  pub lawful : (j : ℕ) (s : Segment) → j < k → slice_get segments j ≡ Some s → stands_behind (take j segments) s ≡ true

former_pick : (named mine : Bool) (here before : ℕ) → cond (named || (mine || false)) (Some (cond mine here before)) None ≡ cond mine (Some here) (cond named (Some before) None)
former_pick true true here before = refl
former_pick true false here before = refl
former_pick false true here before = refl
former_pick false false here before = refl

former_more : (segments : List Segment) (s : Segment) (t : ℕ) → former (segments ++ s ∷ []) t ≡ cond (eqb s.thread t) (Some (length segments)) (former segments t)
former_more segments s t =
    rw (list_any-append (λ x. eqb x.thread t) segments (s ∷ []), present_push segments s t) (former_pick (names segments t) (eqb s.thread t) (length segments) (present segments t))

pub begun : (segments : List Segment) (lasts : List (Option ℕ)) (messages : Messages) → length lasts ≡ 1024 → ((t : ℕ) → t < 1024 → slice_index_or lasts t None ≡ None) → Agrees [] messages → Underway segments 0 lasts messages
begun segments lasts messages len none agrees = record { within = omega arith; table = record { len = len; each = none }; agrees = agrees; lawful = λ j s lt is. absurd (omega arith) }

and_true : (b : Bool) → b ≡ (b && true)
and_true true = refl
and_true false = refl

marks_are : (earlier : List Segment) (mark : Mark) (s : Segment) → marks_lawfully earlier mark s ≡ (may_follow earlier mark && sends_lawfully earlier mark s)
marks_are earlier Plain s = refl
marks_are earlier (Sent k) s = refl
marks_are earlier (Got k) s = and_true (may_follow earlier (Got k))

last_first : (a b c d f m : Bool) → m ≡ (f && d) → (a && (b && (c && m))) ≡ ((a && (b && (c && d))) && f)
last_first false b c d f m is = refl
last_first true false c d f m is = refl
last_first true true false d f m is = refl
last_first true true true d true m is = is ∙ and_true d
last_first true true true true false m is = is
last_first true true true false false m is = is

-- the two tests
stands_is : (earlier : List Segment) (s : Segment) → stands_behind earlier s ≡ (may_stand earlier s (former earlier s.thread) && may_follow earlier s.mark)
stands_is earlier s =
    last_first (has_thread (length earlier) s.thread) (are_predecessors (length earlier) s.before) (has_former (former earlier s.thread) s.before) (sends_lawfully earlier s.mark s) (may_follow earlier s.mark) (marks_lawfully earlier s.mark s)
    (marks_are earlier s.mark s)

-- what was read of the table, and answered
pub told : (segments : List Segment) (k t : ℕ) (lasts : List (Option ℕ)) (messages : Messages) (s : Segment) (read : Option ℕ) (result : Bool) → Underway segments k lasts messages → t ≡ s.thread → t < 1024 → read ≡ get_or lasts t read
    → result ≡ may_stand (take k segments) s read → result ≡ may_stand (take k segments) s (former (take k segments) s.thread)
told segments k t lasts messages s read result u mine small at is =
    let one : slice_index_or lasts t None ≡ read = get_or_from_slice_get lasts t read None (slice_get_read lasts 1024 t read (sym u.table.len) small at) in
    is ∙ ap (may_stand (take k segments) s) (sym one ∙ u.table.each t small ∙ ap (former (take k segments)) mine)

pub stands_so : (earlier : List Segment) (s : Segment) → true ≡ may_stand earlier s (former earlier s.thread) → true ≡ may_follow earlier s.mark → stands_behind earlier s ≡ true
stands_so earlier s one other = stands_is earlier s ∙ ap (λ (b : Bool). b && may_follow earlier s.mark) (sym one) ∙ sym other

-- one of the tests fails
pub no_place : (earlier : List Segment) (s : Segment) → false ≡ may_stand earlier s (former earlier s.thread) → stands_behind earlier s ≡ true → ⊥
no_place earlier s not stands = false≢true (not ∙ (and_parts (may_stand earlier s (former earlier s.thread)) (may_follow earlier s.mark) (sym (stands_is earlier s) ∙ stands)).0)

pub no_mark : (earlier : List Segment) (s : Segment) → false ≡ may_follow earlier s.mark → stands_behind earlier s ≡ true → ⊥
no_mark earlier s not stands = false≢true (not ∙ (and_parts (may_stand earlier s (former earlier s.thread)) (may_follow earlier s.mark) (sym (stands_is earlier s) ∙ stands)).1)

-- a table with the same look-ups
pub agrees_still : (segments : List Segment) (old new : Messages) → ((k : ℕ) → at new k ≡ at old k) → Agrees segments old → Agrees segments new
agrees_still segments old new same agrees = record { sent = λ k. ap is_there (same k) ∙ agrees.sent k; received = λ k. ap is_taken (same k) ∙ agrees.received k }

pub step : (segments : List Segment) (k t : ℕ) (lasts : List (Option ℕ)) (old new : Messages) (s d : Segment) → Underway segments k lasts old → k < length segments → s ≡ get_or segments k d → t ≡ s.thread → t < 1024 → stands_behind (take k segments) s ≡ true
    → Agrees (take k segments ++ s ∷ []) new → Underway segments (k + 1) (set lasts t (Some k)) new
step segments k t lasts old new s d u within at mine small stands noted =
    let count : length (take k segments) ≡ k = omega (arith, length-take k segments) in
    let more : take (k + 1) segments ≡ take k segments ++ s ∷ [] = take_more segments k d within ∙ ap (λ (x : Segment). take k segments ++ x ∷ []) (sym at) in
    let each : (u' : ℕ) → u' < 1024 → slice_index_or (set lasts t (Some k)) u' None ≡ former (take (k + 1) segments) u' = λ u' lt.
    let goal : former (take (k + 1) segments) u' ≡ cond (eqb s.thread u') (Some k) (former (take k segments) u') =
    ap (λ (xs : List Segment). former xs u') more ∙ former_more (take k segments) s u' ∙ ap (λ (n : ℕ). cond (eqb s.thread u') (Some n) (former (take k segments) u')) count in
    elim (cases_eq t u') [
      | inl same ↦
          ap (λ (n : ℕ). slice_index_or (set lasts t (Some k)) n None) (sym same) ∙ get_or-set_same lasts t (Some k) None (omega (arith, u.table.len))
          ∙ sym (goal ∙ ap (λ b. cond b (Some k) (former (take k segments) u')) (eq-eqb s.thread u' (sym mine ∙ same)))
      | inr other ↦
          get_or-set_other lasts t u' (Some k) None (λ e. other (sym e)) ∙ u.table.each u' lt
          ∙ sym (goal ∙ ap (λ b. cond b (Some k) (former (take k segments) u')) (ne_eqb s.thread u' (λ e. other (mine ∙ e))))
    ] in
    record {
      within = omega arith;
      table = record { len = length-set lasts t (Some k) ∙ u.table.len; each = each };
      agrees = subst (λ (xs : List Segment). Agrees xs new) (sym more) noted;
      lawful = λ j x lt is. elim (cases_lt j k) [
        | inl before ↦ u.lawful j x before is
        | inr last ↦
            let here : j ≡ k = omega arith in
            let same : x ≡ s = sym (get_or_from_slice_get segments j x d is) ∙ ap (λ (n : ℕ). get_or segments n d) here ∙ sym at in
            subst (λ (n : ℕ). stands_behind (take n segments) x ≡ true) (sym here) (subst (λ (y : Segment). stands_behind (take k segments) y ≡ true) (sym same) stands)
      ];
    }

pub done_table : (segments : List Segment) (k : ℕ) (lasts : List (Option ℕ)) (messages : Messages) → Underway segments k lasts messages → length segments ≤ k → IsLastTable segments lasts
done_table segments k lasts messages u all = subst (λ (xs : List Segment). IsLastTable xs lasts) (take_all k segments all) u.table

pub done_messages : (segments : List Segment) (k : ℕ) (lasts : List (Option ℕ)) (messages : Messages) → Underway segments k lasts messages → length segments ≤ k → Agrees segments messages
done_messages segments k lasts messages u all = subst (λ (xs : List Segment). Agrees xs messages) (take_all k segments all) u.agrees

pub done_lawful : (segments : List Segment) (k : ℕ) (lasts : List (Option ℕ)) (messages : Messages) → Underway segments k lasts messages → length segments ≤ k → AreSegments segments
done_lawful segments k lasts messages u all j s is = u.lawful j s (let lt = slice_get_within segments j s is in omega arith) is

-- a segment that may not stand there
pub refused : (segments : List Segment) (k : ℕ) (s d : Segment) → k < length segments → s ≡ get_or segments k d → (stands_behind (take k segments) s ≡ true → ⊥) → AreSegments segments → ⊥
refused segments k s d within at none are = none (are k s (slice_get-get_or segments k d within ∙ ap (λ (x : Segment). Some x) (sym at)))

-- nor one of a thread beyond the profile
pub no_such_thread : (segments : List Segment) (s : Segment) → 1024 ≤ s.thread → stands_behind segments s ≡ true → ⊥
no_such_thread segments s more stands =
    let parts = and_parts (has_thread (length segments) s.thread) (are_predecessors (length segments) s.before && (has_former (former segments s.thread) s.before && marks_lawfully segments s.mark s)) stands in
    let below : s.thread < cond (eqb (length segments) 0) 1 1024 = ltb-true s.thread _ parts.0 in
    pick (eqb (length segments) 0) below
  where
    pick : (b : Bool) → s.thread < cond b 1 1024 → ⊥
    pick true lt = omega arith
    pick false lt = omega arith
