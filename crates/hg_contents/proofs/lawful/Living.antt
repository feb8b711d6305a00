-- A thread is alive, or holds no lock.
use Rattle.std.proofs.Common.{◌≡◌, ◌⊎◌, inl, inr, ℕ, ◌<◌, Bool, true, false, not, ◌&&◌, ◌||◌, nat_eq, nat_lt, List, [], ◌∷◌, length, refl, sym, ◌∙◌, subst, arith}
use Rattle.std.proofs.lemmas.Bool.{eq-eqb, eqb-false, eqb-true, false≢true, ltb-false, not-false, or_cases, or_left}
use Rattle.std.specs.List.{AllByRecursion}
use Rattle.hg_model.specs.declared.event.Event.{Event}
use Rattle.hg_model.specs.declared.event.Event.TheVariants.{Fork, Join, Lock, RdLock, Unlock, Read, Write, Alloc, Free, Send, Recv}
use Rattle.hg_model.specs.declared.held.HeldLock.{HeldLock}
use Rattle.hg_model.specs.declared.thread.ThreadState.{ThreadState}
use Rattle.hg_model.specs.Restoring.{holds_alive}
use Rattle.hg_model.specs.Verdicts.{child_holds_locks, has_thread, no_thread}
use Rattle.hg_model.specs.Change.{dead, threads_after, with_held}
use Rattle.hg_contents.proofs.lawful.Changing.{each_added, each_changed, each_fails, numbers, passing_is_numbered}
use Rattle.hg_contents.proofs.lawful.Lists.{each_weaker, each_with}
use Rattle.hg_contents.proofs.lawful.Numbers.{absent}
use Rattle.hg_contents.proofs.lawful.Ordering.{IsSorted}

abbrev pub Lives : ThreadState → Type 0
Lives x = holds_alive x ≡ true

pub each_unmapped : (P : ℕ → Type 0) (threads : List ThreadState) → AllByRecursion P (numbers threads) → AllByRecursion (λ x. P x.number) threads
each_unmapped P [] all = tt
each_unmapped P (x ∷ threads) all = (all.0, each_unmapped P threads all.1)

-- what a thread of this number passes, all of this number pass, as there is one
only_one : (t : ℕ) (test : ThreadState → Bool) (threads : List ThreadState) → IsSorted ◌<◌ (numbers threads) → has_thread threads t test ≡ true → AllByRecursion (λ x. t ≡ x.number → test x ≡ true) threads
only_one t test [] sorted some = tt
only_one t test (x ∷ threads) sorted some = pick (only_one t test threads sorted.1) (nat_eq x.number t) refl some
  where
    pick : (has_thread threads t test ≡ true → AllByRecursion (λ x. t ≡ x.number → test x ≡ true) threads) → (b : Bool) → nat_eq x.number t ≡ b → ((b && test x) || has_thread threads t test) ≡ true → AllByRecursion (λ x. t ≡ x.number → test x ≡ true) (x ∷ threads)
    pick rest true e found = (λ same. here (or_cases (test x) (has_thread threads t test) found), each_weaker (λ y. x.number < y.number) (λ y. t ≡ y.number → test y ≡ true) (λ y lt same. absurd (omega (arith, is, lt, same))) threads (each_unmapped (λ n. x.number < n) threads sorted.0))
      where
        is : x.number ≡ t
        is = eqb-true x.number t e

        here : (test x ≡ true) ⊎ (has_thread threads t test ≡ true) → test x ≡ true
        here (inl passes) = passes
        here (inr later) = absurd (false≢true (sym (absent (numbers threads) t (subst (λ n. AllByRecursion (λ m. n < m) (numbers threads)) is sorted.0)) ∙ passing_is_numbered t test threads later))
    pick rest false e found = (λ same. absurd (eqb-false x.number t e (sym same)), rest found)

still : (x : ThreadState) (hs : List HeldLock) → x.alive ≡ true → Lives (with_held x hs)
still x hs alive = or_left x.alive (nat_eq (length hs) 0) alive

-- alive where it is the acting one
abbrev Acts : ℕ → ThreadState → Type 0
Acts t x = Lives x × (t ≡ x.number → x.alive ≡ true)

module _ (threads : List ThreadState) (sorted : IsSorted ◌<◌ (numbers threads)) (all : AllByRecursion Lives threads) where
  acting : (t : ℕ) → not (has_thread threads t (λ x. x.alive)) ≡ false → AllByRecursion (Acts t) threads
  acting t none = each_with Lives (λ x. t ≡ x.number → x.alive ≡ true) (Acts t) (λ x one other. (one, other)) threads all (only_one t (λ x. x.alive) threads sorted (not-false (has_thread threads t (λ x. x.alive)) none))

  pub lives_after : (e : Event) → no_thread threads e ≡ false → child_holds_locks threads e ≡ false → AllByRecursion Lives (threads_after e threads)
  lives_after (Fork p c) alive emptied = each_added Lives _ threads refl all
  lives_after (Join p c) alive emptied =
      each_changed (λ x. Lives x × (c ≡ x.number → nat_lt 0 (length x.held) ≡ false)) Lives c dead (λ x is same. let none = ltb-false 0 (length x.held) (is.1 same) in eq-eqb (length x.held) 0 (omega (arith, none))) (λ x is. is.0) threads
      (each_with Lives (λ x. c ≡ x.number → nat_lt 0 (length x.held) ≡ false) (λ x. Lives x × (c ≡ x.number → nat_lt 0 (length x.held) ≡ false)) (λ x one other. (one, other)) threads all (each_fails c (λ x. nat_lt 0 (length x.held)) threads emptied))
  lives_after (Lock t l) alive emptied = each_changed (Acts t) Lives t _ (λ x is same. still x _ (is.1 same)) (λ x is. is.0) threads (acting t alive)
  lives_after (RdLock t l) alive emptied = each_changed (Acts t) Lives t _ (λ x is same. still x _ (is.1 same)) (λ x is. is.0) threads (acting t alive)
  lives_after (Unlock t l) alive emptied = each_changed (Acts t) Lives t _ (λ x is same. still x _ (is.1 same)) (λ x is. is.0) threads (acting t alive)
  lives_after (Read a) alive emptied = all
  lives_after (Write a) alive emptied = all
  lives_after (Alloc b) alive emptied = all
  lives_after (Free b) alive emptied = all
  lives_after (Send t k) alive emptied = all
  lives_after (Recv t k) alive emptied = all
