-- What each event does to the tables of threads and locks.
use Rattle.std.proofs.Common.{◌≡◌, ◌≢◌, ℕ, zero, suc, ◌+◌, ◌-◌, ◌<◌, ◌≤◌, Bool, true, false, cond, not, ◌&&◌, ◌||◌, nat_eq, nat_lt, nat_le, List, [], ◌∷◌, length, set, get_or, count_by, Option, Some, None, option_map, IfSome, refl, sym, ap, ◌∙◌, subst, ⊎_elim, arith}
use Rattle.std.proofs.lemmas.Bool.{ne_eqb, eq-eqb, eqb-true, lt-ltb, false≢true, ltb-false, leb-false, and_left, not-true, not-false, cases_lt}
use Rattle.std.proofs.lemmas.List.{get_or_read, get_or_past}
use Rattle.std.proofs.lemmas.List.Sums.{count_by-le-length, sum_by-cons}
use Rattle.std.specs.List.{list_any}
use Rattle.hg_model.specs.declared.held.HeldLock.{HeldLock}
use Rattle.hg_model.specs.declared.thread.ThreadState.{ThreadState}
use Rattle.hg_rules.specs.declared.table.LockUse.{LockUse}
use Rattle.hg_rules.specs.declared.table.LockUse.TheVariants.{Reading, Writing}
use Rattle.hg_model.specs.Locks.{with_hold, without_lock, has_lock}
use Rattle.hg_model.specs.Change.{change, with_held, with_thread, dead}
use Rattle.hg_model.specs.Verdicts.{has_thread}
use Rattle.hg_rules.specs.Tables.{started, holders, writers, use_of, readers_in, TablesAgree, test_at}
use Rattle.hg_rules.proofs.Slots.{found_at, started_set, started_added, one_if, count_set, any_is_count, length_started}
use Rattle.hg_rules.proofs.Uses.{has, writes, reading_means, writing_means, writers_le_holders, agree_changed, agree_same, agree_added, any_with_hold, any_filter_keeps, any_filter_drops}

-- a write by index to a place that is known to be that of t
pub written : {X : Type 0} (xs : List X) (i t : ℕ) (old new d : X) (f : X → X) → i ≡ t → t < length xs → old ≡ get_or xs i old → new ≡ f old → set xs i new ≡ set xs t (f (get_or xs t d))
written xs i t old new d f is lt was made =
    (λ j. set xs (is j) (made j)) ∙ ap (λ o. set xs t (f o)) (get_or_read xs i old (omega arith) was d ∙ ap (λ (n : ℕ). get_or xs n d) is)

-- a thread that passes a test stands at its number
pub standing_at : (slots : List (Option ThreadState)) (uses : List LockUse) (t : ℕ) (test : ThreadState → Bool) → TablesAgree slots uses → has_thread (started slots) t test ≡ true →
    (x : ThreadState) × (get_or slots t None ≡ Some x) × (test x ≡ true)
standing_at slots uses t test ag h = from (get_or slots t None) refl
  where
    from : (o : Option ThreadState) → get_or slots t None ≡ o → (x : ThreadState) × (get_or slots t None ≡ Some x) × (test x ≡ true)
    from None e = absurd (false≢true (ap (test_at test) (sym e) ∙ sym (found_at test t slots ag.numbered) ∙ h))
    from (Some x) e = (x, e, ap (test_at test) (sym e) ∙ sym (found_at test t slots ag.numbered) ∙ h)

-- no thread of that number was started
pub nothing_at : (slots : List (Option ThreadState)) (uses : List LockUse) (t : ℕ) → TablesAgree slots uses → list_any (λ x. nat_eq x.number t) (started slots) ≡ false → get_or slots t None ≡ None
nothing_at slots uses t ag h = from (get_or slots t None) refl
  where
    and_true : (b : Bool) → (b && true) ≡ b
    and_true true = refl
    and_true false = refl

    from : (o : Option ThreadState) → get_or slots t None ≡ o → get_or slots t None ≡ None
    from None e = e
    from (Some x) e = absurd (false≢true (sym h ∙ (λ i. list_any (λ y. sym (and_true (nat_eq y.number t)) i) (started slots)) ∙ found_at (λ x. true) t slots ag.numbered ∙ ap (test_at (λ x. true)) e))

pub slot_in : (slots : List (Option ThreadState)) (t : ℕ) (x : ThreadState) → get_or slots t None ≡ Some x → t < length slots
slot_in slots t x e = ⊎_elim (λ lt. lt) (λ past. absurd (let none = get_or_past slots t None past in cc)) (cases_lt t (length slots))

-- the list of threads after a write of a changed one
changed_is : (f : ThreadState → ThreadState) (slots : List (Option ThreadState)) (uses : List LockUse) (t : ℕ) (x : ThreadState) → TablesAgree slots uses → get_or slots t None ≡ Some x → started (set slots t (Some (f x))) ≡ change t f (started slots)
changed_is f slots uses t x ag e = started_set f 0 t t slots x (omega arith) ag.numbered e

-- what the tables are after a change of thread t by f that gives a lock the entry u
pub record Changed (f : ThreadState → ThreadState) (slots : List (Option ThreadState)) (t : ℕ) (new : List LockUse) : Type 0 where
  pub agree : TablesAgree (set slots t (option_map f (get_or slots t None))) new
  pub list : started (set slots t (option_map f (get_or slots t None))) ≡ change t f (started slots)

changed_from : (f : ThreadState → ThreadState) (slots : List (Option ThreadState)) (uses new : List LockUse) (t : ℕ) (x : ThreadState) → TablesAgree slots uses → get_or slots t None ≡ Some x → TablesAgree (set slots t (Some (f x))) new → Changed f slots t new
changed_from f slots uses new t x ag e after = record {
  agree = subst (λ o. TablesAgree (set slots t (option_map f o)) new) (sym e) after;
  list = ap (λ o. started (set slots t (option_map f o))) e ∙ changed_is f slots uses t x ag e;
}

pub ended : (slots : List (Option ThreadState)) (uses : List LockUse) (t : ℕ) (test : ThreadState → Bool) → TablesAgree slots uses → has_thread (started slots) t test ≡ true → Changed dead slots t uses
ended slots uses t test ag h =
    let s = standing_at slots uses t test ag h in
    changed_from dead slots uses uses t s.0 ag s.1 (agree_same slots uses t s.0 (dead s.0) ag s.1 refl refl)

pub added : (slots : List (Option ThreadState)) (uses : List LockUse) (t : ℕ) (y : ThreadState) → TablesAgree slots uses → t < 1024 → list_any (λ x. nat_eq x.number t) (started slots) ≡ false → y.number ≡ t → y.held ≡ [] →
    TablesAgree (set slots t (Some y)) uses × (started (set slots t (Some y)) ≡ with_thread y (started slots))
added slots uses t y ag lt fresh n held =
    let none = nothing_at slots uses t ag fresh in
    (agree_added slots uses t y ag none lt n held, started_added 0 t slots y (omega arith) (let len = ag.slots_len in omega arith) ag.numbered none)

-- a thread with one lock more
abbrev pub holding : ℕ → Bool → ThreadState → ThreadState
holding l write x = with_held x (with_hold (record { lock = l; write = write }) x.held)

-- a thread without a lock
abbrev pub giving : ℕ → ThreadState → ThreadState
giving l x = with_held x (without_lock l x.held)

abbrev pub has_room : ThreadState → Bool
has_room x = not (nat_le 64 (length x.held))

other_has : (l k : ℕ) (write : Bool) (x : ThreadState) → has l x ≡ false → k ≢ l → has k (holding l write x) ≡ has k x
other_has l k write x absent ne =
    any_with_hold (λ (h : HeldLock). nat_eq h.lock k) (record { lock = l; write = write }) x.held absent
    ∙ ap (λ b. b || has k x) (ne_eqb l k (λ e. ne (sym e)))

other_writes : (l k : ℕ) (write : Bool) (x : ThreadState) → has l x ≡ false → k ≢ l → writes k (holding l write x) ≡ writes k x
other_writes l k write x absent ne =
    any_with_hold (λ (h : HeldLock). nat_eq h.lock k && h.write) (record { lock = l; write = write }) x.held absent
    ∙ ap (λ b. (b && write) || writes k x) (ne_eqb l k (λ e. ne (sym e)))

now_has : (l : ℕ) (write : Bool) (x : ThreadState) → has l x ≡ false → has l (holding l write x) ≡ true
now_has l write x absent =
    any_with_hold (λ (h : HeldLock). nat_eq h.lock l) (record { lock = l; write = write }) x.held absent ∙ ap (λ b. b || has l x) (eq-eqb l l refl)

now_writes : (l : ℕ) (write : Bool) (x : ThreadState) → has l x ≡ false → writes l (holding l write x) ≡ (write || writes l x)
now_writes l write x absent =
    any_with_hold (λ (h : HeldLock). nat_eq h.lock l && h.write) (record { lock = l; write = write }) x.held absent ∙ ap (λ b. (b && write) || writes l x) (eq-eqb l l refl)

-- a thread in the table counts for a test that it passes
counts : (p : ThreadState → Bool) (slots : List (Option ThreadState)) (t : ℕ) (x : ThreadState) → get_or slots t None ≡ Some x → one_if (p x) ≤ count_by p (started slots)
counts p [] t x e = absurd (cc)
counts p (None ∷ slots) zero x e = absurd (cc)
counts p (None ∷ slots) (suc t) x e = counts p slots t x e
counts p (Some z ∷ slots) zero x e =
    let same = ap (λ (y : ThreadState). one_if (p y)) (let s : z ≡ x = cc in s) in
    omega (arith, sum_by-cons (λ y. one_if (p y)) z (started slots))
counts p (Some z ∷ slots) (suc t) x e = omega (arith, counts p slots t x e, sum_by-cons (λ y. one_if (p y)) z (started slots))

-- a test that no thread in the table passes
passed_by_none : (p : ThreadState → Bool) (slots : List (Option ThreadState)) (t : ℕ) (x : ThreadState) → get_or slots t None ≡ Some x → count_by p (started slots) ≡ 0 → p x ≡ false
passed_by_none p slots t x e none = from (p x) (counts p slots t x e)
  where
    from : (b : Bool) → one_if b ≤ count_by p (started slots) → b ≡ false
    from false h = refl
    from true h = absurd (omega arith)

none_counted : (p : ThreadState → Bool) (threads : List ThreadState) → list_any p threads ≡ false → count_by p threads ≡ 0
none_counted p threads h = let le = ltb-false 0 (count_by p threads) (sym (any_is_count p threads) ∙ h) in omega arith

pub locked : (slots : List (Option ThreadState)) (uses : List LockUse) (t l : ℕ) → TablesAgree slots uses → l < 65536 → has_thread (started slots) t has_room ≡ true → list_any (has l) (started slots) ≡ false →
    Changed (holding l true) slots t (set uses l Writing)
locked slots uses t l ag lt room is_free =
    let s = standing_at slots uses t has_room ag room in
    let x = s.0 in
    let y = holding l true x in
    let none = none_counted (has l) (started slots) is_free in
    let absent = passed_by_none (has l) slots t x s.1 none in
    let hs = count_set (has l) t slots x y s.1 in
    let ws = count_set (writes l) t slots x y s.1 in
    let hx = ap one_if absent in
    let hy = ap one_if (now_has l true x absent) in
    let wy = ap one_if (now_writes l true x absent) in
    let wx : one_if (writes l x) ≡ 0 = ap one_if (passed_by_none (writes l) slots t x s.1 (omega (arith, writers_le_holders (started slots) l))) in
    let some : 0 < writers (started (set slots t (Some y))) l = omega arith in
    changed_from (holding l true) slots uses (set uses l Writing) t x ag s.1
    (agree_changed slots uses t l x y Writing ag s.1 refl (λ k ne. other_has l k true x absent ne) (λ k ne. other_writes l k true x absent ne) lt
    (ap (λ b. cond b Writing (Reading (holders (started (set slots t (Some y))) l))) (sym (lt-ltb 0 _ some))) (λ _. omega arith))

-- an entry under which nobody writes
readers_are : (threads : List ThreadState) (l : ℕ) (u : LockUse) → u ≡ use_of threads l → writers threads l ≡ 0 → readers_in u ≡ holders threads l
readers_are threads l (Reading n) h none = sym (reading_means threads l n (sym h)).1
readers_are threads l Writing h none = absurd (let some = writing_means threads l (sym h) in omega arith)

pub read_locked : (slots : List (Option ThreadState)) (uses : List LockUse) (t l : ℕ) → TablesAgree slots uses → l < 65536 → has_thread (started slots) t has_room ≡ true → has_thread (started slots) t (has l) ≡ false →
    list_any (writes l) (started slots) ≡ false → Changed (holding l false) slots t (set uses l (Reading (readers_in (get_or uses l Writing) + 1)))
read_locked slots uses t l ag lt room absent_at no_writer =
    let s = standing_at slots uses t has_room ag room in
    let x = s.0 in
    let y = holding l false x in
    let absent : has l x ≡ false = ap (test_at (has l)) (sym s.1) ∙ sym (found_at (has l) t slots ag.numbered) ∙ absent_at in
    let none = none_counted (writes l) (started slots) no_writer in
    let readers = readers_are (started slots) l (get_or uses l Writing) (ag.each_use l lt) none in
    let hs = count_set (has l) t slots x y s.1 in
    let ws = count_set (writes l) t slots x y s.1 in
    let hx = ap one_if absent in
    let hy = ap one_if (now_has l false x absent) in
    let wy = ap one_if (now_writes l false x absent) in
    let still : writers (started (set slots t (Some y))) l ≡ 0 = omega arith in
    changed_from (holding l false) slots uses (set uses l (Reading (readers_in (get_or uses l Writing) + 1))) t x ag s.1
    (agree_changed slots uses t l x y (Reading (readers_in (get_or uses l Writing) + 1)) ag s.1 refl (λ k ne. other_has l k false x absent ne) (λ k ne. other_writes l k false x absent ne) lt
    (let more : readers_in (get_or uses l Writing) + 1 ≡ holders (started (set slots t (Some y))) l = omega arith in
    ap Reading more ∙ ap (λ (n : ℕ). cond (nat_lt 0 n) Writing (Reading (holders (started (set slots t (Some y))) l))) (sym still)) (λ some. absurd (omega arith)))

-- so few read that one more fits
pub few_readers : (slots : List (Option ThreadState)) (uses : List LockUse) (l : ℕ) → TablesAgree slots uses → l < 65536 → list_any (writes l) (started slots) ≡ false → readers_in (get_or uses l Writing) ≤ 1024
few_readers slots uses l ag lt no_writer =
    let readers = readers_are (started slots) l (get_or uses l Writing) (ag.each_use l lt) (none_counted (writes l) (started slots) no_writer) in
    let len = ag.slots_len in
    omega (arith, count_by-le-length (has l) (started slots), length_started slots)

given_has : (l k : ℕ) (x : ThreadState) → k ≢ l → has k (giving l x) ≡ has k x
given_has l k x ne = any_filter_keeps (λ (h : HeldLock). nat_eq h.lock k) (λ (h : HeldLock). not (nat_eq h.lock l)) (λ h dropped. ne_eqb h.lock k (λ e. ne (sym e ∙ eqb-true h.lock l (not-false (nat_eq h.lock l) dropped)))) x.held

given_writes : (l k : ℕ) (x : ThreadState) → k ≢ l → writes k (giving l x) ≡ writes k x
given_writes l k x ne = any_filter_keeps (λ (h : HeldLock). nat_eq h.lock k && h.write) (λ (h : HeldLock). not (nat_eq h.lock l)) (λ h dropped. and_left (nat_eq h.lock k) h.write (ne_eqb h.lock k (λ e. ne (sym e ∙ eqb-true h.lock l (not-false (nat_eq h.lock l) dropped))))) x.held

given_up : (l : ℕ) (x : ThreadState) → has l (giving l x) ≡ false
given_up l x = any_filter_drops (λ (h : HeldLock). nat_eq h.lock l) (λ (h : HeldLock). not (nat_eq h.lock l)) (λ h k. not-true (nat_eq h.lock l) k) x.held

given_up_writing : (l : ℕ) (x : ThreadState) → writes l (giving l x) ≡ false
given_up_writing l x = any_filter_drops (λ (h : HeldLock). nat_eq h.lock l && h.write) (λ (h : HeldLock). not (nat_eq h.lock l)) (λ h k. and_left (nat_eq h.lock l) h.write (not-true (nat_eq h.lock l) k)) x.held

-- the holders without one of them, by the entry before
one_less : (threads : List ThreadState) (l : ℕ) (u : LockUse) → u ≡ use_of threads l → (0 < writers threads l → holders threads l ≡ 1) → 0 < holders threads l → readers_in u - 1 ≡ holders threads l - 1
one_less threads l (Reading n) h one some = let m = (reading_means threads l n (sym h)).1 in omega arith
one_less threads l Writing h one some = let m = one (writing_means threads l (sym h)) in omega arith

pub unlocked : (slots : List (Option ThreadState)) (uses : List LockUse) (t l : ℕ) → TablesAgree slots uses → l < 65536 → has_thread (started slots) t (has l) ≡ true →
    Changed (giving l) slots t (set uses l (Reading (readers_in (get_or uses l Writing) - 1)))
unlocked slots uses t l ag lt held =
    let s = standing_at slots uses t (has l) ag held in
    let x = s.0 in
    let y = giving l x in
    let hs = count_set (has l) t slots x y s.1 in
    let ws = count_set (writes l) t slots x y s.1 in
    let hx = ap one_if s.2 in
    let hy = ap one_if (given_up l x) in
    let wy = ap one_if (given_up_writing l x) in
    let less = one_less (started slots) l (get_or uses l Writing) (ag.each_use l lt) (ag.one_writer l) (omega arith) in
    let le = writers_le_holders (started (set slots t (Some y))) l in
    let none : writers (started (set slots t (Some y))) l ≡ 0 = ⊎_elim (λ some. let one = ag.one_writer l some in omega arith) (λ no. omega arith) (cases_lt 0 (writers (started slots) l)) in
    changed_from (giving l) slots uses (set uses l (Reading (readers_in (get_or uses l Writing) - 1))) t x ag s.1
    (agree_changed slots uses t l x y (Reading (readers_in (get_or uses l Writing) - 1)) ag s.1 refl (λ k ne. given_has l k x ne) (λ k ne. given_writes l k x ne) lt
    (let fewer : readers_in (get_or uses l Writing) - 1 ≡ holders (started (set slots t (Some y))) l = omega arith in
    ap Reading fewer ∙ ap (λ (n : ℕ). cond (nat_lt 0 n) Writing (Reading (holders (started (set slots t (Some y))) l))) (sym none)) (λ some. absurd (omega arith)))

-- the tables as the code leaves them
pub left_by : (f : ThreadState → ThreadState) (slots : List (Option ThreadState)) (uses : List LockUse) (t l i j : ℕ) (old new : Option ThreadState) (u v : LockUse) →
    Changed f slots t (set uses l v) → i ≡ t → t < length slots → old ≡ get_or slots i old → new ≡ option_map f old → j ≡ l → u ≡ v →
    TablesAgree (set slots i new) (set uses j u) × (started (set slots i new) ≡ change t f (started slots))
left_by f slots uses t l i j old new u v changed is lt was made at same =
    let here = written slots i t old new None (option_map f) is lt was made in
    let there : set uses j u ≡ set uses l v = λ k. set uses (at k) (same k) in
    (subst (λ s. TablesAgree s (set uses j u)) (sym here) (subst (TablesAgree (set slots t (option_map f (get_or slots t None)))) (sym there) changed.agree), ap started here ∙ changed.list)

-- the thread that stands there has room for a lock that it lacks
pub room_at : (slots : List (Option ThreadState)) (t l i : ℕ) (x : ThreadState) (old : Option ThreadState) → get_or slots t None ≡ Some x → has_room x ≡ true → has l x ≡ false → i ≡ t → old ≡ get_or slots i old →
    IfSome old (λ y. (length y.held < 64) × (has_lock y.held l ≡ false))
room_at slots t l i x old e room absent is was =
    subst (λ o. IfSome o (λ y. (length y.held < 64) × (has_lock y.held l ≡ false)))
    (sym (get_or_read slots i old (let lt = slot_in slots t x e in omega arith) was None ∙ ap (λ (n : ℕ). get_or slots n None) is ∙ e))
    (leb-false 64 (length x.held) (not-true (nat_le 64 (length x.held)) room), absent)

-- what the reader of an entry has
pub entry_read : (uses : List LockUse) (i l : ℕ) (u : LockUse) → i ≡ l → l < length uses → u ≡ get_or uses i u → u ≡ get_or uses l Writing
entry_read uses i l u is lt was = get_or_read uses i u (omega arith) was Writing ∙ ap (λ (n : ℕ). get_or uses n Writing) is

-- a thread lacks a lock that nobody has
pub lacks : (slots : List (Option ThreadState)) (t l : ℕ) (x : ThreadState) → get_or slots t None ≡ Some x → list_any (has l) (started slots) ≡ false → has l x ≡ false
lacks slots t l x e none = passed_by_none (has l) slots t x e (none_counted (has l) (started slots) none)

-- a thread lacks a lock, as the table tells
pub lacks_at : (slots : List (Option ThreadState)) (uses : List LockUse) (t l : ℕ) (x : ThreadState) → TablesAgree slots uses → get_or slots t None ≡ Some x → has_thread (started slots) t (has l) ≡ false → has l x ≡ false
lacks_at slots uses t l x ag e absent = ap (test_at (has l)) (sym e) ∙ sym (found_at (has l) t slots ag.numbered) ∙ absent
