-- Threads that are added behind others, each with its locks.
use Rattle.std.proofs.Common.{◌≡◌, ℕ, zero, suc, ◌+◌, ◌-◌, ◌<◌, ◌≤◌, Bool, true, false, cond, ◌&&◌, ◌||◌, not, nat_eq, nat_lt, List, [], ◌∷◌, ◌++◌, length, map, take, drop, get_or, slice_get, Option, Some, None, is_some, refl, sym, ap, subst, ⊎_elim, ◌∙◌, arith, add-one}
use Rattle.std.proofs.Math.Bool.{or-false}
use Rattle.std.proofs.lemmas.Bool.{lt-ltb, le-ltb, ltb-true, ltb-false, ne_eqb, eq-eqb, and_parts, or_parts}
use Rattle.std.proofs.lemmas.Option.{get_or_from_slice_get, slice_get-get_or, slice_get_cases}
use Rattle.std.proofs.lemmas.List.{take_all, take_more, length-drop}
use Rattle.std.proofs.lemmas.List.Folds.{list_any-append, list_any_at, list_any_more}
use Rattle.std.specs.List.{list_all, list_any}
use Rattle.hg_model.specs.declared.thread.ThreadState.{ThreadState}
use Rattle.hg_model.specs.declared.held.HeldLock.{HeldLock}
use Rattle.hg_model.specs.Change.{change, dead, with_held, with_thread}
use Rattle.hg_model.specs.Locks.{has_lock, has_lock_for_writing, with_hold, IsByRisingLock}
use Rattle.hg_model.specs.Restoring.{AreThreads, excludes, fits, holds_alive, is_next}
use Rattle.hg_model.specs.Verdicts.{has_thread}
use Rattle.hg_rules.specs.Tables.{started, IsNumbered}
use Rattle.hg_model.proofs.Rising.{From, from_increasing}

abbrev pub free : Option ThreadState → Bool
free slot = not (is_some slot)

-- all places are free where no thread in them has a lesser number
free_from : (k t : ℕ) (slots : List (Option ThreadState)) → t ≤ k → IsNumbered k slots → list_all free slots ≡ list_all (λ x. nat_lt x.number t) (started slots)
free_from k t [] le h = refl
free_from k t (None ∷ slots) le h = free_from (k + 1) t slots (omega arith) h
free_from k t (Some x ∷ slots) le h = rw (le-ltb x.number t (let is = h.0 in omega arith)) refl

-- the places from one on are free where all numbers are below it
pub free_behind : (k i t : ℕ) (slots : List (Option ThreadState)) → t ≡ k + i → IsNumbered k slots → list_all free (drop i slots) ≡ list_all (λ x. nat_lt x.number t) (started slots)
free_behind k zero t slots e h = free_from k t slots (omega arith) h
free_behind k (suc i) t [] e h = refl
free_behind k (suc i) t (None ∷ slots) e h = free_behind (k + 1) i t slots (omega arith) h
free_behind k (suc i) t (Some x ∷ slots) e h = rw (lt-ltb x.number t (let is = h.0 in omega arith)) (free_behind (k + 1) i t slots (omega arith) h.1)

-- what a range to the end gives
pub rest : {X : Type 0} (i : ℕ) (xs : List X) → take (length xs - i) (drop i xs) ≡ drop i xs
rest i xs = take_all (length xs - i) (drop i xs) (omega (arith, length-drop i xs))

-- all numbers are below this one
abbrev pub below : ℕ → List ThreadState → Bool
below t threads = list_all (λ x. nat_lt x.number t) threads

-- a thread that is alive, with these locks
abbrev pub alive_with : ℕ → List HeldLock → ThreadState
alive_with t holds = record { number = t; alive = true; held = holds }

pub none_has : (t : ℕ) (threads : List ThreadState) → below t threads ≡ true → list_any (λ x. nat_eq x.number t) threads ≡ false
none_has t [] b = refl
none_has t (x ∷ threads) b =
    let parts = and_parts (nat_lt x.number t) (below t threads) b in
    rw (ne_eqb x.number t (λ e. let lt = ltb-true x.number t parts.0 in omega arith)) (none_has t threads parts.1)

pub added_behind : (y : ThreadState) (threads : List ThreadState) → below y.number threads ≡ true → with_thread y threads ≡ threads ++ y ∷ []
added_behind y [] b = refl
added_behind y (x ∷ threads) b =
    let parts = and_parts (nat_lt x.number y.number) (below y.number threads) b in
    let lt = ltb-true x.number y.number parts.0 in
    rw (le-ltb y.number x.number (omega arith), ne_eqb y.number x.number (λ e. omega arith)) (ap (λ xs. x ∷ xs) (added_behind y threads parts.1))

pub changed_behind : (f : ThreadState → ThreadState) (y : ThreadState) (t : ℕ) (threads : List ThreadState) → below t threads ≡ true → y.number ≡ t → change t f (threads ++ y ∷ []) ≡ threads ++ f y ∷ []
changed_behind f y t [] b e = rw (eq-eqb t y.number (sym e)) refl
changed_behind f y t (x ∷ threads) b e =
    let parts = and_parts (nat_lt x.number t) (below t threads) b in
    let lt = ltb-true x.number t parts.0 in
    rw (ne_eqb t x.number (λ s. omega arith)) (ap (λ xs. x ∷ xs) (changed_behind f y t threads parts.1 e))

pub found_behind : (test : ThreadState → Bool) (y : ThreadState) (t : ℕ) (threads : List ThreadState) → below t threads ≡ true → y.number ≡ t → has_thread (threads ++ y ∷ []) t test ≡ test y
found_behind test y t [] b e = rw (eq-eqb y.number t e) (ends (test y))
  where
    ends : (b : Bool) → (b || false) ≡ b
    ends true = refl
    ends false = refl
found_behind test y t (x ∷ threads) b e =
    let parts = and_parts (nat_lt x.number t) (below t threads) b in
    let lt = ltb-true x.number t parts.0 in
    rw (ne_eqb x.number t (λ s. omega arith)) (found_behind test y t threads parts.1 e)

-- a lock from a place of rising ones on has no lesser number
at_least : (n i : ℕ) (holds : List HeldLock) (d : HeldLock) → From n (map (λ h. h.lock) holds) → i < length holds → n ≤ (get_or holds i d).lock
at_least n i [] d f lt = absurd (omega arith)
at_least n zero (x ∷ holds) d f lt = f.0
at_least n (suc i) (x ∷ holds) d f lt = let more = at_least (suc x.lock) i holds d f.1 (omega arith) in let le = f.0 in omega arith

-- the next of rising locks goes behind those before it
pub next_behind : (n i : ℕ) (holds : List HeldLock) (d : HeldLock) → From n (map (λ h. h.lock) holds) → i < length holds → with_hold (get_or holds i d) (take i holds) ≡ take (suc i) holds
next_behind n i [] d f lt = absurd (omega arith)
next_behind n zero (x ∷ holds) d f lt = refl
next_behind n (suc i) (x ∷ holds) d f lt =
    let h = get_or holds i d in
    let more : x.lock < h.lock = let m = at_least (suc x.lock) i holds d f.1 (omega arith) in omega arith in
    rw (le-ltb h.lock x.lock (omega arith), ne_eqb h.lock x.lock (λ e. omega arith)) (ap (λ xs. x ∷ xs) (next_behind (suc x.lock) i holds d f.1 (omega arith)))

-- and is not among them
pub next_absent : (n i : ℕ) (holds : List HeldLock) (d : HeldLock) → From n (map (λ h. h.lock) holds) → i < length holds → has_lock (take i holds) (get_or holds i d).lock ≡ false
next_absent n i [] d f lt = absurd (omega arith)
next_absent n zero (x ∷ holds) d f lt = refl
next_absent n (suc i) (x ∷ holds) d f lt =
    let h = get_or holds i d in
    let more : x.lock < h.lock = let m = at_least (suc x.lock) i holds d f.1 (omega arith) in omega arith in
    rw (ne_eqb x.lock h.lock (λ e. omega arith)) (next_absent (suc x.lock) i holds d f.1 (omega arith))

no_writer : (holds : List HeldLock) (l : ℕ) → has_lock holds l ≡ false → has_lock_for_writing holds l ≡ false
no_writer [] l h = refl
no_writer (x ∷ holds) l h =
    let parts = or_parts (nat_eq x.lock l) (has_lock holds l) h in
    rw (parts.0) (no_writer holds l parts.1)

-- a thread that does not hold the lock excludes nobody from it
excludes_none : (h : HeldLock) (x : ThreadState) → has_lock x.held h.lock ≡ false → excludes h x ≡ false
excludes_none h x none = elim h.write as (λ b. cond b (has_lock x.held h.lock) (has_lock_for_writing x.held h.lock) ≡ false) [
  | true ↦ none
  | false ↦ no_writer x.held h.lock none
]

-- Thread t was added behind the old ones, alive, with the first i of its locks, and none of them excludes one of those.
pub record Underway (old now : List ThreadState) (t : ℕ) (held : List HeldLock) (i : ℕ) : Type 0 where
  pub is : now ≡ old ++ alive_with t (take i held) ∷ []
  pub apart : list_any (λ h. list_any (excludes h) old) (take i held) ≡ false

pub absent_next : (old now : List ThreadState) (t : ℕ) (held : List HeldLock) (i : ℕ) (d : HeldLock) → below t old ≡ true → Underway old now t held i → IsByRisingLock held → i < length held →
    has_thread now t (λ x. has_lock x.held (get_or held i d).lock) ≡ false
absent_next old now t held i d b u up lt =
    ap (λ threads. has_thread threads t (λ x. has_lock x.held (get_or held i d).lock)) u.is
    ∙ found_behind (λ x. has_lock x.held (get_or held i d).lock) (alive_with t (take i held)) t old b refl
    ∙ next_absent 0 i held d (from_increasing 0 _ (λ _. omega arith) up) lt

-- the thread itself does not stand in the way of its next lock
others : (old now : List ThreadState) (t : ℕ) (held : List HeldLock) (i : ℕ) (d : HeldLock) → Underway old now t held i → IsByRisingLock held → i < length held →
    list_any (excludes (get_or held i d)) now ≡ list_any (excludes (get_or held i d)) old
others old now t held i d u up lt =
    let h = get_or held i d in
    let mine = excludes_none h (alive_with t (take i held)) (next_absent 0 i held d (from_increasing 0 _ (λ _. omega arith) up) lt) in
    ap (list_any (excludes h)) u.is
    ∙ list_any-append (excludes h) old (alive_with t (take i held) ∷ [])
    ∙ ap (λ b. list_any (excludes h) old || (b || false)) mine
    ∙ or-false (list_any (excludes h) old)

pub taken_next : (old now new : List ThreadState) (t : ℕ) (held : List HeldLock) (i : ℕ) (d : HeldLock) → below t old ≡ true → Underway old now t held i → IsByRisingLock held → i < length held →
    list_any (excludes (get_or held i d)) now ≡ false → new ≡ change t (λ x. with_held x (with_hold (get_or held i d) x.held)) now → Underway old new t held (i + 1)
taken_next old now new t held i d b u up lt free is =
    let h = get_or held i d in
    let from = from_increasing 0 _ (λ _. omega arith) up in
    record {
      is = is
          ∙ ap (change t (λ x. with_held x (with_hold h x.held))) u.is
          ∙ changed_behind (λ x. with_held x (with_hold h x.held)) (alive_with t (take i held)) t old b refl
          ∙ ap (λ hs. old ++ alive_with t hs ∷ []) (next_behind 0 i held d from lt ∙ ap (λ m. take m held) (sym (add-one i)));
      apart = list_any_more (λ x. list_any (excludes x) old) held i d lt
          ∙ ap (λ b. b || list_any (excludes h) old) u.apart
          ∙ sym (others old now t held i d u up lt) ∙ free;
    }

and_false : (b : Bool) → (b && false) ≡ false
and_false true = refl
and_false false = refl

pub refused_next : (old now : List ThreadState) (x : ThreadState) (items : List HeldLock) (i : ℕ) (d : HeldLock) → items ≡ x.held → Underway old now x.number x.held i → IsByRisingLock items → i < length items →
    list_any (excludes (get_or items i d)) now ≡ true → fits old x ≡ false
refused_next old now x items i d same u up lt some =
    let here = subst (λ hs. Underway old now x.number hs i) (sym same) u in
    let excluded = ap (list_any (λ h. list_any (excludes h) old)) (sym same) ∙ list_any_at (λ h. list_any (excludes h) old) items i d lt (sym (others old now x.number items i d here up lt) ∙ some) in
    ap (λ b. is_next old x.number && (holds_alive x && not b)) excluded
    ∙ ap (λ b. is_next old x.number && b) (and_false (holds_alive x))
    ∙ and_false (is_next old x.number)

-- all its locks are taken
pub all_taken : (old now : List ThreadState) (t : ℕ) (held : List HeldLock) (i : ℕ) → Underway old now t held i → length held ≤ i → (now ≡ old ++ alive_with t held ∷ []) × (list_any (λ h. list_any (excludes h) old) held ≡ false)
all_taken old now t held i u le =
    let all = take_all i held le in
    (u.is ∙ ap (λ hs. old ++ alive_with t hs ∷ []) all, sym (ap (list_any (λ h. list_any (excludes h) old)) all) ∙ u.apart)

pub fits_all : (old : List ThreadState) (x : ThreadState) → is_next old x.number ≡ true → holds_alive x ≡ true → list_any (λ h. list_any (excludes h) old) x.held ≡ false → fits old x ≡ true
fits_all old x next alive apart = rw (next, alive, apart) refl

alive_is : (x : ThreadState) → x.alive ≡ true → alive_with x.number x.held ≡ x
alive_is x a = λ i. record { number = x.number; alive = sym a i; held = x.held }

pub living : (old now : List ThreadState) (x : ThreadState) → x.alive ≡ true → now ≡ old ++ alive_with x.number x.held ∷ [] → now ≡ old ++ x ∷ []
living old now x a is = is ∙ ap (λ y. old ++ y ∷ []) (alive_is x a)

-- a dead thread holds nothing
dead_is : (x : ThreadState) → x.alive ≡ false → dead (alive_with x.number x.held) ≡ x
dead_is x a = λ i. record { number = x.number; alive = sym a i; held = x.held }

pub ended : (old now new : List ThreadState) (x : ThreadState) → below x.number old ≡ true → x.alive ≡ false → now ≡ old ++ alive_with x.number x.held ∷ [] → new ≡ change x.number dead now → new ≡ old ++ x ∷ []
ended old now new x b a is end =
    end ∙ ap (change x.number dead) is ∙ changed_behind dead (alive_with x.number x.held) x.number old b refl ∙ ap (λ y. old ++ y ∷ []) (dead_is x a)

pub is_true : (b : Bool) → false ≡ not b → b ≡ true
is_true true h = refl
is_true false h = absurd (cc)

pub is_false : (b : Bool) → true ≡ not b → b ≡ false
is_false true h = absurd (cc)
is_false false h = refl

within : {X : Type 0} (xs : List X) (k : ℕ) (x : X) → slice_get xs k ≡ Some x → k < length xs
within xs k x at = ⊎_elim (λ found. found.1) (λ past. absurd (let none = past.1 in cc)) (slice_get_cases xs k).1

-- The first i threads stand in the table, and each of them may stand behind those before it.
pub record IsRestoring (threads now : List ThreadState) (i : ℕ) : Type 0 where
  pub is : now ≡ take i threads
  pub each : (k : ℕ) (x : ThreadState) → k < i → slice_get threads k ≡ Some x → fits (take k threads) x ≡ true

pub none_restored : (threads now : List ThreadState) → now ≡ [] → IsRestoring threads now 0
none_restored threads now e = record { is = e; each = λ k x lt _. absurd (omega arith) }

pub one_restored : (threads now new : List ThreadState) (i : ℕ) (y : ThreadState) → IsRestoring threads now i → i < length threads → y ≡ get_or threads i y → true ≡ fits now y → new ≡ now ++ y ∷ [] → IsRestoring threads new (i + 1)
one_restored threads now new i y r lt item fit is =
    record {
      is = is ∙ (λ j. r.is j ++ item j ∷ []) ∙ sym (take_more threads i y lt);
      each = λ k x below at. by (nat_lt k i) k x below at refl;
    }
  where
    by : (b : Bool) (k : ℕ) (x : ThreadState) → k < i + 1 → slice_get threads k ≡ Some x → nat_lt k i ≡ b → fits (take k threads) x ≡ true
    by true k x below at e = r.each k x (ltb-true k i e) at
    by false k x below at e =
        let behind = ltb-false k i e in
        let same : k ≡ i = omega arith in
        let el = get_or_from_slice_get threads i x y (subst (λ (m : ℕ). slice_get threads m ≡ Some x) same at) in
        ap (λ (m : ℕ). fits (take m threads) x) same ∙ ap (λ xs. fits xs x) (sym r.is) ∙ ap (λ z. fits now z) (sym el ∙ sym item) ∙ sym fit

pub refused_thread : (threads now : List ThreadState) (i : ℕ) (y : ThreadState) → IsRestoring threads now i → i < length threads → y ≡ get_or threads i y → false ≡ fits now y → AreThreads threads → ⊥
refused_thread threads now i y r lt item unfit each =
    let both : false ≡ true = unfit ∙ ap (λ xs. fits xs y) r.is ∙ each i y (slice_get-get_or threads i y lt ∙ ap Some (sym item)) in
    absurd (cc)

pub all_restored : (threads now : List ThreadState) (i : ℕ) → IsRestoring threads now i → length threads ≤ i → (now ≡ threads) × AreThreads threads
all_restored threads now i r le = (r.is ∙ take_all i threads le, λ k x at. r.each k x (let lt = within threads k x at in omega arith) at)
