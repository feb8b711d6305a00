-- No thread holds a lock that another one holds for writing.
use Rattle.std.proofs.Common.{◌≡◌, ◌⊎◌, inl, inr, ℕ, Bool, true, false, cond, not, ◌&&◌, ◌||◌, nat_eq, List, [], ◌∷◌, filter, refl, sym, ap, ◌∙◌}
use Rattle.std.proofs.lemmas.Bool.{and_left, cases_eq, false_from_ne_true, false≢true, ne_eqb, or_cases, or_from, or_left, or_parts, or_right}
use Rattle.std.specs.List.{AllByRecursion, list_any}
use Rattle.hg_model.specs.declared.event.Event.{Event}
use Rattle.hg_model.specs.declared.event.Event.TheVariants.{Fork, Join, Lock, RdLock, Unlock, Read, Write, Alloc, Free, Send, Recv}
use Rattle.hg_model.specs.declared.held.HeldLock.{HeldLock}
use Rattle.hg_model.specs.declared.thread.ThreadState.{ThreadState}
use Rattle.hg_model.specs.Locks.{has_lock, has_lock_for_writing, with_hold, without_lock}
use Rattle.hg_model.specs.Verdicts.{already_held, lock_busy}
use Rattle.hg_model.specs.Change.{change, dead, threads_after, with_held, with_thread}
use Rattle.hg_rules.proofs.Uses.{any_with_hold, has, writes}
use Rattle.hg_contents.proofs.lawful.Changing.{each_added, each_changed, each_fails, none_passes}
use Rattle.hg_contents.proofs.lawful.Lists.{each_is, each_weaker, each_with}

-- the second thread holds none of the locks under which the first one writes
abbrev pub IsApart : ThreadState → ThreadState → Type 0
IsApart x y = (x.number ≡ y.number → ⊥) → (l : ℕ) → writes l x ≡ true → has l y ≡ false

abbrev pub AreApart : List ThreadState → Type 0
AreApart threads = AllByRecursion (λ x. AllByRecursion (IsApart x) threads) threads

-- one thread changes, of which something holds
pairs_changed : (F : ThreadState → Type 0) (t : ℕ) (f : ThreadState → ThreadState) → ((x : ThreadState) → (f x).number ≡ x.number)
    → ((x y : ThreadState) → F x → F y → t ≡ x.number → IsApart x y → IsApart (f x) y)
    → ((x y : ThreadState) → F x → F y → t ≡ y.number → IsApart x y → IsApart x (f y))
    → (threads : List ThreadState) → AllByRecursion F threads → AreApart threads → AreApart (change t f threads)
pairs_changed F t f number one other threads all apart =
    each_changed (λ x. F x × AllByRecursion (IsApart x) threads) (λ x. AllByRecursion (IsApart x) (change t f threads)) t f
    (λ x is same. each_changed (λ y. F y × IsApart x y) (IsApart (f x)) t f (λ y has same'. λ differ. absurd (differ (number x ∙ sym same ∙ same' ∙ sym (number y)))) (λ y has. one x y is.0 has.0 same has.1) threads (facts x is.1))
    (λ x is. each_changed (λ y. F y × IsApart x y) (IsApart x) t f (λ y has same. other x y is.0 has.0 same has.1) (λ y has. has.1) threads (facts x is.1))
    threads (each_with F (λ x. AllByRecursion (IsApart x) threads) (λ x. F x × AllByRecursion (IsApart x) threads) (λ x a b. (a, b)) threads all apart)
  where
    facts : (x : ThreadState) → AllByRecursion (IsApart x) threads → AllByRecursion (λ y. F y × IsApart x y) threads
    facts x rest = each_with F (IsApart x) (λ y. F y × IsApart x y) (λ y a b. (a, b)) threads all rest

-- a thread without locks is added
pairs_added : (z : ThreadState) → ((l : ℕ) → writes l z ≡ false) → ((l : ℕ) → has l z ≡ false) → (threads : List ThreadState) → AreApart threads → AreApart (with_thread z threads)
pairs_added z quiet empty threads apart =
    each_added (λ x. AllByRecursion (IsApart x) (with_thread z threads)) z threads
    (each_is (IsApart z) (λ y differ l w. absurd (false≢true (sym (quiet l) ∙ w))) (with_thread z threads))
    (each_weaker (λ x. AllByRecursion (IsApart x) threads) (λ x. AllByRecursion (IsApart x) (with_thread z threads)) (λ x rest. each_added (IsApart x) z threads (λ differ l w. empty l) rest) threads apart)

-- the lock is free for a thread that takes it
record IsFree (t l : ℕ) (write : Bool) (x : ThreadState) : Type 0 where
  pub mine : t ≡ x.number → has l x ≡ false
  pub unwritten : writes l x ≡ false
  pub unheld : write ≡ true → has l x ≡ false

abbrev taking : ℕ → Bool → ThreadState → ThreadState
taking l write x = with_held x (with_hold (record { lock = l; write = write }) x.held)

took : (b write w : Bool) → ((b && write) || w) ≡ true → w ≡ false → write ≡ true
took b true w h none = refl
took true false w h none = absurd (false≢true (sym none ∙ h))
took false false w h none = absurd (false≢true (sym none ∙ h))

module _ (t l : ℕ) (write : Bool) where
  taken_writes : (x : ThreadState) (k : ℕ) → has l x ≡ false → writes k (taking l write x) ≡ ((nat_eq l k && write) || writes k x)
  taken_writes x k absent = any_with_hold (λ (h : HeldLock). nat_eq h.lock k && h.write) (record { lock = l; write = write }) x.held absent

  taken_has : (x : ThreadState) (k : ℕ) → has l x ≡ false → has k (taking l write x) ≡ (nat_eq l k || has k x)
  taken_has x k absent = any_with_hold (λ (h : HeldLock). nat_eq h.lock k) (record { lock = l; write = write }) x.held absent

  first_takes : (x y : ThreadState) → IsFree t l write x → IsFree t l write y → t ≡ x.number → IsApart x y → IsApart (taking l write x) y
  first_takes x y fx fy same apart differ k w = pick (cases_eq l k)
    where
      now : ((nat_eq l k && write) || writes k x) ≡ true
      now = sym (taken_writes x k (fx.mine same)) ∙ w

      pick : (l ≡ k) ⊎ (l ≡ k → ⊥) → has k y ≡ false
      pick (inl is) = ap (λ n. has n y) (sym is) ∙ fy.unheld (took (nat_eq l k) write (writes k x) now (ap (λ n. writes n x) (sym is) ∙ fx.unwritten))
      pick (inr other) = apart differ k (ap (λ b. (b && write) || writes k x) (sym (ne_eqb l k other)) ∙ now)

  second_takes : (x y : ThreadState) → IsFree t l write x → IsFree t l write y → t ≡ y.number → IsApart x y → IsApart x (taking l write y)
  second_takes x y fx fy same apart differ k w = taken_has y k (fy.mine same) ∙ pick (cases_eq l k)
    where
      pick : (l ≡ k) ⊎ (l ≡ k → ⊥) → (nat_eq l k || has k y) ≡ false
      pick (inl is) = absurd (false≢true (sym fx.unwritten ∙ ap (λ n. writes n x) is ∙ w))
      pick (inr other) = ap (λ b. b || has k y) (ne_eqb l k other) ∙ apart differ k w

  taken : (threads : List ThreadState) → AllByRecursion (IsFree t l write) threads → AreApart threads → AreApart (change t (taking l write) threads)
  taken threads free apart = pairs_changed (IsFree t l write) t (taking l write) (λ x. refl) first_takes second_takes threads free apart

-- what a filter has, the list has
any_of_filter : (p keep : HeldLock → Bool) (hs : List HeldLock) → list_any p (filter keep hs) ≡ true → list_any p hs ≡ true
any_of_filter p keep [] some = some
any_of_filter p keep (h ∷ hs) some = pick (any_of_filter p keep hs) (keep h) some
  where
    pick : (list_any p (filter keep hs) ≡ true → list_any p hs ≡ true) → (b : Bool) → list_any p (cond b (h ∷ filter keep hs) (filter keep hs)) ≡ true → (p h || list_any p hs) ≡ true
    pick rest false some = or_right (p h) (list_any p hs) (rest some)
    pick rest true some = either (or_cases (p h) (list_any p (filter keep hs)) some)
      where
        either : (p h ≡ true) ⊎ (list_any p (filter keep hs) ≡ true) → (p h || list_any p hs) ≡ true
        either (inl here) = or_left (p h) (list_any p hs) here
        either (inr later) = or_right (p h) (list_any p hs) (rest later)

abbrev giving : ℕ → ThreadState → ThreadState
giving l x = with_held x (without_lock l x.held)

given : (t l : ℕ) (threads : List ThreadState) → AreApart threads → AreApart (change t (giving l) threads)
given t l threads apart =
    pairs_changed (λ x. Unit {0}) t (giving l) (λ x. refl)
    (λ x y fx fy same is differ k w. is differ k (any_of_filter (λ (h : HeldLock). nat_eq h.lock k && h.write) (λ (h : HeldLock). not (nat_eq h.lock l)) x.held w))
    (λ x y fx fy same is differ k w. false_from_ne_true (has k (giving l y)) (λ held. false≢true (sym (is differ k w) ∙ any_of_filter (λ (h : HeldLock). nat_eq h.lock k) (λ (h : HeldLock). not (nat_eq h.lock l)) y.held held)))
    threads (each_is (λ (x : ThreadState). Unit {0}) (λ x. tt) threads) apart

ended : (c : ℕ) (threads : List ThreadState) → AreApart threads → AreApart (change c dead threads)
ended c threads apart =
    pairs_changed (λ x. Unit {0}) c dead (λ x. refl) (λ x y fx fy same is. is) (λ x y fx fy same is. is) threads (each_is (λ (x : ThreadState). Unit {0}) (λ x. tt) threads) apart

-- a lock that is not held is not written under
pub no_writer : (hs : List HeldLock) (l : ℕ) → has_lock hs l ≡ false → has_lock_for_writing hs l ≡ false
no_writer [] l none = refl
no_writer (h ∷ hs) l none =
    let parts = or_parts (nat_eq h.lock l) (has_lock hs l) none in
    or_from (nat_eq h.lock l && h.write) (has_lock_for_writing hs l) (and_left (nat_eq h.lock l) h.write parts.0) (no_writer hs l parts.1)

pub apart_after : (e : Event) (threads : List ThreadState) → already_held threads e ≡ false → lock_busy threads e ≡ false → AreApart threads → AreApart (threads_after e threads)
apart_after (Fork p c) threads lacked free apart = pairs_added _ (λ l. refl) (λ l. refl) threads apart
apart_after (Join p c) threads lacked free apart = ended c threads apart
apart_after (Lock t l) threads lacked free apart =
    taken t l true threads (each_weaker (λ x. has l x ≡ false) (IsFree t l true) (λ x none. record { mine = λ same. none; unwritten = no_writer x.held l none; unheld = λ is. none }) threads (none_passes (has l) threads free)) apart
apart_after (RdLock t l) threads lacked free apart =
    taken t l false threads (each_with (λ x. t ≡ x.number → has l x ≡ false) (λ x. writes l x ≡ false) (IsFree t l false) (λ x mine none. record { mine = mine; unwritten = none; unheld = λ is. absurd (false≢true is) }) threads
    (each_fails t (has l) threads lacked) (none_passes (writes l) threads free)) apart
apart_after (Unlock t l) threads lacked free apart = given t l threads apart
apart_after (Read a) threads lacked free apart = apart
apart_after (Write a) threads lacked free apart = apart
apart_after (Alloc b) threads lacked free apart = apart
apart_after (Free b) threads lacked free apart = apart
apart_after (Send t k) threads lacked free apart = apart
apart_after (Recv t k) threads lacked free apart = apart
