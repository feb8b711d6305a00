-- The locks of each thread rise, and are 64 at most.
use Rattle.std.proofs.Common.{◌≡◌, ℕ, ◌+◌, ◌≤◌, Bool, true, false, cond, not, nat_eq, nat_lt, nat_le, List, [], ◌∷◌, length, arith}
use Rattle.std.proofs.lemmas.Bool.{leb-false}
use Rattle.std.proofs.lemmas.List.Sums.{count_by-le-length, length-filter}
use Rattle.std.specs.List.{AllByRecursion}
use Rattle.hg_model.specs.declared.event.Event.{Event}
use Rattle.hg_model.specs.declared.event.Event.TheVariants.{Fork, Join, Lock, RdLock, Unlock, Read, Write, Alloc, Free, Send, Recv}
use Rattle.hg_model.specs.declared.held.HeldLock.{HeldLock}
use Rattle.hg_model.specs.declared.thread.ThreadState.{ThreadState}
use Rattle.hg_model.specs.Contents.{Content}
use Rattle.hg_model.specs.Locks.{with_hold, without_lock}
use Rattle.hg_model.specs.Verdicts.{full_held}
use Rattle.hg_model.specs.Change.{dead, empty_content, threads_after}
use Rattle.hg_model.proofs.Rising.{rising_filter, rising_with}
use Rattle.hg_root.specs.Lawful.{AreHeld}
use Rattle.hg_contents.proofs.lawful.Changing.{each_added, each_changed, each_fails}
use Rattle.hg_contents.proofs.lawful.Lists.{each_with}
use Rattle.hg_contents.proofs.lawful.Passing.{IsKept}

abbrev pub Holds : ThreadState → Type 0
Holds x = AreHeld x.held

with_hold_few : (h : HeldLock) (hs : List HeldLock) → length (with_hold h hs) ≤ length hs + 1
with_hold_few h [] = omega arith
with_hold_few h (x ∷ hs) = first (with_hold_few h hs) (nat_lt h.lock x.lock) (nat_eq h.lock x.lock)
  where
    first : length (with_hold h hs) ≤ length hs + 1 → (less same : Bool) → length (cond less (h ∷ x ∷ hs) (cond same (h ∷ hs) (x ∷ with_hold h hs))) ≤ length (x ∷ hs) + 1
    first rest true same = omega arith
    first rest false true = omega arith
    first rest false false = omega (arith, rest)

none_held : AreHeld []
none_held = (λ k lt. absurd (omega arith), omega arith)

one_more : (h : HeldLock) (hs : List HeldLock) → AreHeld hs → nat_le 64 (length hs) ≡ false → AreHeld (with_hold h hs)
one_more h hs are room = (rising_with h hs are.0, (let few = leb-false 64 (length hs) room in omega (arith, few, with_hold_few h hs)))

one_less : (l : ℕ) (hs : List HeldLock) → AreHeld hs → AreHeld (without_lock l hs)
one_less l hs are =
    let few = are.1 in
    (rising_filter (λ h. not (nat_eq h.lock l)) hs are.0, omega (arith, few, length-filter (λ (h : HeldLock). not (nat_eq h.lock l)) hs, count_by-le-length (λ (h : HeldLock). not (nat_eq h.lock l)) hs))

-- the thread has room where it is the acting one
abbrev HasRoom : ℕ → ThreadState → Type 0
HasRoom t x = Holds x × (t ≡ x.number → nat_le 64 (length x.held) ≡ false)

held_after : (e : Event) (threads : List ThreadState) → full_held threads e ≡ false → AllByRecursion Holds threads → AllByRecursion Holds (threads_after e threads)
held_after (Fork p c) threads room all = each_added Holds _ threads none_held all
held_after (Join p c) threads room all = each_changed Holds Holds c dead (λ x is same. is) (λ x is. is) threads all
held_after (Lock t l) threads room all =
    each_changed (HasRoom t) Holds t _ (λ x is same. one_more (record { lock = l; write = true }) x.held is.0 (is.1 same)) (λ x is. is.0) threads
    (each_with Holds (λ x. t ≡ x.number → nat_le 64 (length x.held) ≡ false) (HasRoom t) (λ x is free. (is, free)) threads all (each_fails t (λ x. nat_le 64 (length x.held)) threads room))
held_after (RdLock t l) threads room all =
    each_changed (HasRoom t) Holds t _ (λ x is same. one_more (record { lock = l; write = false }) x.held is.0 (is.1 same)) (λ x is. is.0) threads
    (each_with Holds (λ x. t ≡ x.number → nat_le 64 (length x.held) ≡ false) (HasRoom t) (λ x is free. (is, free)) threads all (each_fails t (λ x. nat_le 64 (length x.held)) threads room))
held_after (Unlock t l) threads room all = each_changed Holds Holds t _ (λ x is same. one_less l x.held is) (λ x is. is) threads all
held_after (Read a) threads room all = all
held_after (Write a) threads room all = all
held_after (Alloc b) threads room all = all
held_after (Free b) threads room all = all
held_after (Send t k) threads room all = all
held_after (Recv t k) threads room all = all

abbrev pub EachHolds : Content → Type 0
EachHolds c = AllByRecursion Holds c.threads

pub holds_first : EachHolds empty_content
holds_first = (none_held, tt)

pub holds_after : IsKept EachHolds
holds_after c n pass all = held_after n.event c.threads pass.room all
