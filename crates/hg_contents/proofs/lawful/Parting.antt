-- Threads of which each may stand behind those before it live, and are apart.
use Rattle.std.proofs.Common.{◌≡◌, ◌⊎◌, inl, inr, ℕ, ◌<◌, ◌≤◌, Bool, true, false, cond, not, ◌&&◌, nat_eq, List, [], ◌∷◌, length, take, get_or, refl, sym, ap, ◌∙◌, arith, length-take, get_or-take}
use Rattle.std.proofs.lemmas.Bool.{and_parts, cases_eq, cases_lt, eqb-true, false_from_ne_true, false≢true, not-true, or_cases, or_from}
use Rattle.std.proofs.lemmas.List.Elements.{All-from_get_or, All-from_recursion, recursion_from_All}
use Rattle.std.proofs.lemmas.Option.{slice_get-get_or}
use Rattle.std.specs.List.{AllByRecursion, list_any}
use Rattle.hg_model.specs.declared.held.HeldLock.{HeldLock}
use Rattle.hg_model.specs.declared.thread.ThreadState.{ThreadState}
use Rattle.hg_model.specs.Locks.{has_lock, has_lock_for_writing}
use Rattle.hg_model.specs.Restoring.{AreThreads, excludes, holds_alive, is_next}
use Rattle.hg_rules.proofs.Uses.{has, writes}
use Rattle.hg_contents.proofs.lawful.Changing.{none_passes}
use Rattle.hg_contents.proofs.lawful.Excluding.{AreApart, IsApart, no_writer}
use Rattle.hg_contents.proofs.lawful.Lists.{each_weaker}
use Rattle.hg_contents.proofs.lawful.Living.{Lives}

-- the thread excludes none of these locks
abbrev Admits : ThreadState → List HeldLock → Type 0
Admits y hs = AllByRecursion (λ h. excludes h y ≡ false) hs

admits_writers : (y : ThreadState) (hs : List HeldLock) → Admits y hs → (l : ℕ) → has_lock_for_writing hs l ≡ true → has l y ≡ false
admits_writers y [] all l w = absurd (false≢true w)
admits_writers y (h ∷ hs) all l w = pick (admits_writers y hs all.1 l) (or_cases (nat_eq h.lock l && h.write) (has_lock_for_writing hs l) w)
  where
    pick : (has_lock_for_writing hs l ≡ true → has l y ≡ false) → ((nat_eq h.lock l && h.write) ≡ true) ⊎ (has_lock_for_writing hs l ≡ true) → has l y ≡ false
    pick rest (inl here) =
        let parts = and_parts (nat_eq h.lock l) h.write here in
        ap (λ n. has n y) (sym (eqb-true h.lock l parts.0)) ∙ ap (λ b. cond b (has_lock y.held h.lock) (has_lock_for_writing y.held h.lock)) (sym parts.1) ∙ all.0
    pick rest (inr later) = rest later

unwritten : (y : ThreadState) (h : HeldLock) → excludes h y ≡ false → writes h.lock y ≡ false
unwritten y h none = pick h.write none
  where
    pick : (b : Bool) → cond b (has_lock y.held h.lock) (has_lock_for_writing y.held h.lock) ≡ false → has_lock_for_writing y.held h.lock ≡ false
    pick true none = no_writer y.held h.lock none
    pick false none = none

writer_admits : (y : ThreadState) (hs : List HeldLock) → Admits y hs → (l : ℕ) → writes l y ≡ true → has_lock hs l ≡ false
writer_admits y [] all l w = refl
writer_admits y (h ∷ hs) all l w =
    or_from (nat_eq h.lock l) (has_lock hs l) (false_from_ne_true (nat_eq h.lock l) (λ e. false≢true (sym (unwritten y h all.0) ∙ ap (λ n. writes n y) (eqb-true h.lock l e) ∙ w))) (writer_admits y hs all.1 l w)

module _ (threads : List ThreadState) (are : AreThreads threads) where
  abbrev at : ℕ → ThreadState
  at k = get_or threads k (record { number = 0; alive = true; held = [] })

  fits_at : (k : ℕ) → k < length threads → (holds_alive (at k) && not (list_any (λ h. list_any (excludes h) (take k threads)) (at k).held)) ≡ true
  fits_at k lt = (and_parts (is_next (take k threads) (at k).number) _ (are k (at k) (slice_get-get_or threads k _ lt))).1

  pub living : AllByRecursion Lives threads
  living = recursion_from_All Lives threads (All-from_get_or Lives threads _ (λ k lt. (and_parts (holds_alive (at k)) _ (fits_at k lt)).0))

  earlier_admits : (i k : ℕ) → i < k → k < length threads → Admits (at i) (at k).held
  earlier_admits i k less lt =
      each_weaker (λ h. list_any (excludes h) (take k threads) ≡ false) (λ h. excludes h (at i) ≡ false)
      (λ h none. ap (excludes h) (sym (get_or-take k threads i _ less)) ∙ All-from_recursion (λ y. excludes h y ≡ false) (take k threads) (none_passes (excludes h) (take k threads) none) i _ (omega (arith, less, lt, length-take k threads))) (at k).held
      (none_passes (λ h. list_any (excludes h) (take k threads)) (at k).held (not-true _ (and_parts (holds_alive (at k)) _ (fits_at k lt)).1))

  pair_apart : (i k : ℕ) → i < length threads → k < length threads → IsApart (at i) (at k)
  pair_apart i k lt lt' differ l w = pick (cases_lt k i)
    where
      other : i ≤ k → (i ≡ k) ⊎ (i ≡ k → ⊥) → has l (at k) ≡ false
      other le (inl same) = absurd (differ (ap (λ n. (at n).number) same))
      other le (inr apart) = writer_admits (at i) (at k).held (earlier_admits i k (omega (arith, le, apart)) lt') l w

      pick : (k < i) ⊎ (i ≤ k) → has l (at k) ≡ false
      pick (inl less) = admits_writers (at k) (at i).held (earlier_admits k i less lt) l w
      pick (inr le) = other le (cases_eq i k)

  pub apart : AreApart threads
  apart =
      recursion_from_All (λ x. AllByRecursion (IsApart x) threads) threads
      (All-from_get_or (λ x. AllByRecursion (IsApart x) threads) threads _ (λ i lt. recursion_from_All (IsApart (at i)) threads (All-from_get_or (IsApart (at i)) threads _ (λ k lt'. pair_apart i k lt lt'))))
