-- A thread that is read.
use Rattle.std.proofs.Common.{◌≡◌, ℕ, suc, ◌<◌, ◌≤◌, Bool, true, false, cond, ◌&&◌, List, [], ◌∷◌, length, map, get_or, Option, Some, None, refl, sym, ap, ◌∙◌, arith, nat_lt}
use Rattle.std.specs.Int.{w16, w32}
use Rattle.std.specs.Prelude.{slice_index_or}
use Rattle.std.specs.List.Sorted.{IsStrictlyIncreasing}
use Rattle.std.proofs.lemmas.Bool.{and_parts, lt-ltb, ltb-true, le-leb, leb-true, eq-eqb, eqb-true}
use Rattle.hg_model.proofs.Rising.{From, from_increasing, increasing_from}
use Rattle.hg_model.specs.declared.held.HeldLock.{HeldLock}
use Rattle.hg_model.specs.declared.segment.Segment.{Segment}
use Rattle.hg_model.specs.declared.thread.ThreadState.{ThreadState}
use Rattle.hg_graph.specs.Restoring.{former}
use Rattle.hg_root.specs.Last.{IsLastTable}
use Rattle.hg_root.specs.Lawful.{AreHeld}
use Rattle.hg_root.specs.Reading.{RawThread, alive_at, are_held, byte_at, is_last, is_some_of, is_thread, lock_at, number_at, raw_thread_at, rises, thread_at, times}

from_rises : (n : ℕ) (xs : List ℕ) → (0 < length xs → n ≤ get_or xs 0 0) → rises xs ≡ true → From n xs
from_rises n [] h up = tt
from_rises n (x ∷ []) h up = (h (omega arith), tt)
from_rises n (x ∷ y ∷ xs) h up =
    let parts = and_parts (nat_lt x y) (rises (y ∷ xs)) up in
    (h (omega arith), from_rises (suc x) (y ∷ xs) (λ _. ltb-true x y parts.0) parts.1)

rises_from : (n : ℕ) (xs : List ℕ) → From n xs → rises xs ≡ true
rises_from n [] f = refl
rises_from n (x ∷ []) f = refl
rises_from n (x ∷ y ∷ xs) f = rw (lt-ltb x y (let l = f.1.0 in omega arith)) (rises_from (suc x) (y ∷ xs) f.1)

pub rising_is : (xs : List ℕ) → IsStrictlyIncreasing xs → rises xs ≡ true
rising_is xs h = rises_from 0 xs (from_increasing 0 xs (λ _. omega arith) h)

pub is_rising : (xs : List ℕ) → rises xs ≡ true → IsStrictlyIncreasing xs
is_rising xs h = increasing_from 0 xs (from_rises 0 xs (λ _. omega arith) h)

pub held_is : (held : List HeldLock) → AreHeld held → are_held held ≡ true
held_is held h = rw (le-leb (length held) 64 h.1, rising_is (map (λ x. x.lock) held) h.0) refl

pub is_held : (held : List HeldLock) → are_held held ≡ true → AreHeld held
is_held held h =
    let parts = and_parts _ (rises (map (λ x. x.lock) held)) h in
    (is_rising _ parts.1, leb-true (length held) 64 parts.0)

some_of : (found : Option ℕ) (last : ℕ) → found ≡ Some last → is_some_of found last ≡ true
some_of found last is = ap (λ (x : Option ℕ). is_some_of x last) is ∙ eq-eqb last last refl

pub of_some : (found : Option ℕ) (last : ℕ) → is_some_of found last ≡ true → found ≡ Some last
of_some None last is = absurd cc
of_some (Some n) last is = ap (λ (k : ℕ). Some k) (eqb-true n last is)

pub last_is : (segments : List Segment) (t last : ℕ) → t < 1024 → former segments t ≡ Some last → is_last segments t last ≡ true
last_is segments t last small is = rw (lt-ltb t 1024 small) (some_of (former segments t) last is)

pub is_its_last : (segments : List Segment) (t last : ℕ) → is_last segments t last ≡ true → (t < 1024) × (former segments t ≡ Some last)
is_its_last segments t last is =
    let parts = and_parts (nat_lt t 1024) (is_some_of (former segments t) last) is in
    (ltb-true t 1024 parts.0, of_some (former segments t) last parts.1)

raw_is : (bytes b1 b2 b3 b4 b5 : List ℕ) (n last count : ℕ) (alive : Bool) (locks : List HeldLock) → number_at w16 bytes ≡ Some (n, b1) → alive_at b1 ≡ Some (alive, b2) → number_at w32 b2 ≡ Some (last, b3)
    → byte_at b3 ≡ Some (count, b4) → times lock_at count b4 ≡ Some (locks, b5) → raw_thread_at bytes ≡ Some ((n, (alive, (last, locks))), b5)
raw_is bytes b1 b2 b3 b4 b5 n last count alive locks e1 e2 e3 e4 e5 = rw (e1, e2, e3, e4, e5) refl

abbrev from_raw : RawThread → ThreadState
from_raw p = record { number = p.0; alive = p.1.0; held = p.1.1.1 }

thread_is : (segments : List Segment) (bytes rest : List ℕ) (p : RawThread) (b : Bool) → raw_thread_at bytes ≡ Some (p, rest) → is_thread segments p ≡ b → thread_at segments bytes ≡ cond b (Some (from_raw p, rest)) None
thread_is segments bytes rest p true e is = rw (e, is) refl
thread_is segments bytes rest p false e is = rw (e, is) refl

not_true : (b : Bool) → (b ≡ true → ⊥) → b ≡ false
not_true true h = absurd (h refl)
not_true false h = refl

both_true : (a b : Bool) → a ≡ true → b ≡ true → (a && b) ≡ true
both_true a b h k = rw (h, k) refl

module _ (segments : List Segment) (lasts : List (Option ℕ)) (table : IsLastTable segments lasts) (bytes b1 b2 b3 b4 b5 : List ℕ) (n last count : ℕ) (alive : Bool) (locks : List HeldLock)
    (e1 : number_at w16 bytes ≡ Some (n, b1)) (e2 : alive_at b1 ≡ Some (alive, b2)) (e3 : number_at w32 b2 ≡ Some (last, b3)) (e4 : byte_at b3 ≡ Some (count, b4)) (e5 : times lock_at count b4 ≡ Some (locks, b5)) where
  pub accepted : n < 1024 → slice_index_or lasts n None ≡ Some last → AreHeld locks → thread_at segments bytes ≡ Some (record { number = n; alive = alive; held = locks }, b5)
  accepted small at held =
      thread_is segments bytes b5 (n, (alive, (last, locks))) true (raw_is bytes b1 b2 b3 b4 b5 n last count alive locks e1 e2 e3 e4 e5)
      (both_true (is_last segments n last) (are_held locks) (last_is segments n last small (sym (table.each n small) ∙ at)) (held_is locks held))

  pub not_held : (AreHeld locks → ⊥) → thread_at segments bytes ≡ None
  not_held none =
      thread_is segments bytes b5 (n, (alive, (last, locks))) false (raw_is bytes b1 b2 b3 b4 b5 n last count alive locks e1 e2 e3 e4 e5)
      (not_true (is_last segments n last && are_held locks) (λ is. none (is_held locks (and_parts (is_last segments n last) (are_held locks) is).1)))

  pub not_last : ((n < 1024) × (slice_index_or lasts n None ≡ Some last) → ⊥) → thread_at segments bytes ≡ None
  not_last none =
      thread_is segments bytes b5 (n, (alive, (last, locks))) false (raw_is bytes b1 b2 b3 b4 b5 n last count alive locks e1 e2 e3 e4 e5)
      (not_true (is_last segments n last && are_held locks) (λ is.
      let found = is_its_last segments n last (and_parts (is_last segments n last) (are_held locks) is).0 in
      none (found.0, table.each n found.0 ∙ found.1)))
