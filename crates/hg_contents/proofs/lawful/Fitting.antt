-- Each thread may stand behind those before it.
use Rattle.std.proofs.Common.{◌≡◌, ℕ, zero, suc, ◌+◌, ◌≤◌, ◌<◌, Bool, true, false, cond, ◌&&◌, nat_eq, nat_lt, List, [], ◌∷◌, take, slice_get, Some, refl, sym, ◌∙◌, subst, arith}
use Rattle.std.proofs.lemmas.Bool.{and_from, eq-eqb, false_from_ne_true, false≢true, lt-ltb, or_from, or_left, or_right}
use Rattle.std.specs.List.{AllByRecursion, list_any, range_with_len}
use Rattle.hg_model.specs.declared.held.HeldLock.{HeldLock}
use Rattle.hg_model.specs.declared.segment.Segment.{Segment}
use Rattle.hg_model.specs.declared.thread.ThreadState.{ThreadState}
use Rattle.hg_model.specs.Contents.{Content}
use Rattle.hg_model.specs.Locks.{has_lock, has_lock_for_writing}
use Rattle.hg_model.specs.Restoring.{AreThreads, excludes}
use Rattle.hg_model.specs.Change.{empty_content}
use Rattle.hg_rules.proofs.Restoring.{below, fits_all}
use Rattle.hg_graph.specs.Graph.{names}
use Rattle.hg_root.specs.Lawful.{named_threads}
use Rattle.hg_contents.proofs.lawful.Changing.{numbers}
use Rattle.hg_contents.proofs.lawful.Excluding.{AreApart, IsApart, apart_after}
use Rattle.hg_contents.proofs.lawful.Lists.{each_taken, each_weaker, each_with}
use Rattle.hg_contents.proofs.lawful.Living.{Lives, each_unmapped, lives_after}
use Rattle.hg_contents.proofs.lawful.Opening.{IsGrown, grown_after, grown_first}
use Rattle.hg_contents.proofs.lawful.Ordering.{IsSorted, each_filter, range_sorted, sorted_filter}
use Rattle.hg_contents.proofs.lawful.Passing.{IsKept}

some_is : {X : Type 0} (x y : X) → Some x ≡ Some y → x ≡ y
some_is x y e = cc

item_at : (P : ThreadState → Type 0) (xs : List ThreadState) → AllByRecursion P xs → (k : ℕ) (x : ThreadState) → slice_get xs k ≡ Some x → P x
item_at P [] all k x at = absurd cc
item_at P (y ∷ ys) all zero x at = subst P (some_is y x at) all.0
item_at P (y ∷ ys) all (suc k) x at = item_at P ys all.1 k x at

-- what sorted numbers say of a thread and those before it
lesser_before : (xs : List ThreadState) → IsSorted ◌<◌ (numbers xs) → (k : ℕ) (x : ThreadState) → slice_get xs k ≡ Some x → AllByRecursion (λ y. y.number < x.number) (take k xs)
lesser_before [] sorted k x at = absurd cc
lesser_before (y ∷ ys) sorted zero x at = tt
lesser_before (y ∷ ys) sorted (suc k) x at = (item_at (λ z. y.number < z.number) ys (each_unmapped (λ n. y.number < n) ys sorted.0) k x at, lesser_before ys sorted.1 k x at)

all_below : (t : ℕ) (threads : List ThreadState) → AllByRecursion (λ y. y.number < t) threads → below t threads ≡ true
all_below t [] all = refl
all_below t (y ∷ ys) all = and_from (nat_lt y.number t) (below t ys) (lt-ltb y.number t all.0) (all_below t ys all.1)

none_any : {X : Type 0} (p : X → Bool) (xs : List X) → AllByRecursion (λ x. p x ≡ false) xs → list_any p xs ≡ false
none_any p [] all = refl
none_any p (x ∷ xs) all = or_from (p x) (list_any p xs) all.0 (none_any p xs all.1)

-- what the list that has a lock says of it
abbrev IsIn : List HeldLock → HeldLock → Type 0
IsIn hs h = (has_lock hs h.lock ≡ true) × (h.write ≡ true → has_lock_for_writing hs h.lock ≡ true)

each_in : (hs : List HeldLock) → AllByRecursion (IsIn hs) hs
each_in [] = tt
each_in (h ∷ hs) = (
  (or_left (nat_eq h.lock h.lock) (has_lock hs h.lock) (eq-eqb h.lock h.lock refl), λ writes. or_left (nat_eq h.lock h.lock && h.write) (has_lock_for_writing hs h.lock) (and_from (nat_eq h.lock h.lock) h.write (eq-eqb h.lock h.lock refl) writes)),
  each_weaker (IsIn hs) (IsIn (h ∷ hs)) (λ k is. (or_right (nat_eq h.lock k.lock) (has_lock hs k.lock) is.0, λ writes. or_right (nat_eq h.lock k.lock && h.write) (has_lock_for_writing hs k.lock) (is.1 writes))) hs (each_in hs),
)

-- an earlier thread, apart both ways
abbrev IsEarlier : ThreadState → ThreadState → Type 0
IsEarlier x y = (y.number < x.number) × (IsApart x y × IsApart y x)

not_excluded : (x y : ThreadState) (h : HeldLock) → IsEarlier x y → IsIn x.held h → excludes h y ≡ false
not_excluded x y h is lock = pick h.write refl
  where
    differ : x.number ≡ y.number → ⊥
    differ same = let lt = is.0 in omega (arith, lt, same)

    pick : (b : Bool) → h.write ≡ b → cond b (has_lock y.held h.lock) (has_lock_for_writing y.held h.lock) ≡ false
    pick true e = is.1.0 differ h.lock (lock.1 e)
    pick false e = false_from_ne_true (has_lock_for_writing y.held h.lock) (λ writes. false≢true (sym (is.1.1 (λ same. differ (sym same)) h.lock writes) ∙ lock.0))

free_of : (x : ThreadState) (before : List ThreadState) → AllByRecursion (IsEarlier x) before → list_any (λ h. list_any (excludes h) before) x.held ≡ false
free_of x before all =
    none_any (λ h. list_any (excludes h) before) x.held
    (each_weaker (IsIn x.held) (λ h. list_any (excludes h) before ≡ false) (λ h lock. none_any (excludes h) before (each_weaker (IsEarlier x) (λ y. excludes h y ≡ false) (λ y is. not_excluded x y h is lock) before all)) x.held (each_in x.held))

-- rising numbers up to 1,023
pub record AreNumbered (threads : List ThreadState) : Type 0 where
  pub sorted : IsSorted ◌<◌ (numbers threads)
  pub small : AllByRecursion (λ n. n < 1024) (numbers threads)

pub fitting : (threads : List ThreadState) → AreNumbered threads → AllByRecursion Lives threads → AreApart threads → AreThreads threads
fitting threads numbered living apart k x at =
    let less = lesser_before threads numbered.sorted k x at in
    let mine = each_taken (IsApart x) k threads (item_at (λ x. AllByRecursion (IsApart x) threads) threads apart k x at) in
    let theirs = each_taken (λ y. IsApart y x) k threads (each_weaker (λ y. AllByRecursion (IsApart y) threads) (λ y. IsApart y x) (λ y rest. item_at (IsApart y) threads rest k x at) threads apart) in
    let both = each_with (IsApart x) (λ y. IsApart y x) (λ y. IsApart x y × IsApart y x) (λ y a b. (a, b)) (take k threads) mine theirs in
    let earlier = each_with (λ y. y.number < x.number) (λ y. IsApart x y × IsApart y x) (IsEarlier x) (λ y lt is. (lt, is)) (take k threads) less both in
    let small = item_at (λ y. y.number < 1024) threads (each_unmapped (λ n. n < 1024) threads numbered.small) k x at in
    fits_all (take k threads) x (and_from (nat_lt x.number 1024) (below x.number (take k threads)) (lt-ltb x.number 1024 small) (all_below x.number (take k threads) less)) (item_at Lives threads living k x at) (free_of x (take k threads) earlier)

range_below : (m a n : ℕ) → a + n ≤ m → AllByRecursion (λ w. w < m) (range_with_len a n)
range_below m a zero le = tt
range_below m a (suc n) le = (omega (arith, le), range_below m (a + 1) n (omega (arith, le)))

named_numbered : (segments : List Segment) → IsSorted ◌<◌ (named_threads segments) × AllByRecursion (λ n. n < 1024) (named_threads segments)
unfolding named_threads
named_numbered segments = (sorted_filter ◌<◌ (names segments) (range_with_len 0 1024) (range_sorted 0 1024), each_filter (λ n. n < 1024) (names segments) (range_with_len 0 1024) (range_below 1024 0 1024 (omega arith)))

pub numbered : (threads : List ThreadState) (segments : List Segment) → numbers threads ≡ named_threads segments → AreNumbered threads
numbered threads segments named = record {
  sorted = subst (IsSorted ◌<◌) (sym named) (named_numbered segments).0;
  small = subst (AllByRecursion (λ n. n < 1024)) (sym named) (named_numbered segments).1;
}

-- the counts and names, and threads that live and are apart
pub record AreFit (c : Content) : Type 0 where
  pub grown : IsGrown c
  pub living : AllByRecursion Lives c.threads
  pub apart : AreApart c.threads

pub fit_first : AreFit empty_content
fit_first = record { grown = grown_first; living = (refl, tt); apart = ((λ differ l w. refl, tt), tt) }

pub fit_after : IsKept AreFit
fit_after c n pass fit = record {
  grown = grown_after c n pass fit.grown;
  living = lives_after c.threads (numbered c.threads c.segments fit.grown.named.named).sorted fit.living n.event pass.alive pass.emptied;
  apart = apart_after n.event c.threads pass.lacked pass.free fit.apart;
}

pub threads_fit : (c : Content) → AreFit c → AreThreads c.threads
threads_fit c fit = fitting c.threads (numbered c.threads c.segments fit.grown.named.named) fit.living fit.apart
