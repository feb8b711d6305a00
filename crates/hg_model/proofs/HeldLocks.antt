-- The list of held locks agrees with the last event of thread and lock.
use Rattle.std.proofs.Common.{◌≡◌, ℕ, Bool, true, false, cond, not, ◌&&◌, nat_eq, nat_lt, List, [], ◌∷◌, find, Option, Some, None, option_map, refl, sym, ap, ◌∙◌, subst, eqb-true}
use Rattle.hg_model.specs.declared.event.Event.{Event}
use Rattle.hg_model.specs.declared.event.Event.TheVariants.{Fork, Join, Lock, RdLock, Unlock, Read, Write, Alloc, Free, Send, Recv}
use Rattle.hg_model.specs.declared.held.HeldLock.{HeldLock}
use Rattle.hg_model.specs.Locks.{mode_held, with_hold, without_lock, held}

-- the first hold of a lock
abbrev at : ℕ → List HeldLock → Option HeldLock
at l hs = find (λ h. nat_eq h.lock l) hs

find_with : (h : HeldLock) (hs : List HeldLock) (l : ℕ) → at l (with_hold h hs) ≡ cond (nat_eq h.lock l) (Some h) (at l hs)
find_with h [] l = refl
find_with h (x ∷ hs) l =
    elim (nat_lt h.lock x.lock) as (λ b. at l (cond b (h ∷ x ∷ hs) (cond (nat_eq h.lock x.lock) (h ∷ hs) (x ∷ with_hold h hs))) ≡ cond (nat_eq h.lock l) (Some h) (at l (x ∷ hs))) [
      | true ↦ refl
      | false ↦ elim (nat_eq h.lock x.lock) as (λ b. nat_eq h.lock x.lock ≡ b → at l (cond b (h ∷ hs) (x ∷ with_hold h hs)) ≡ cond (nat_eq h.lock l) (Some h) (at l (x ∷ hs))) [
        | true ↦ λ same. replaced h x hs l (eqb-true h.lock x.lock same)
        | false ↦ λ other. ap (cond (nat_eq x.lock l) (Some x)) (find_with h hs l) ∙ swapped h x (at l hs) l other
      ] refl
    ]
  where
    replaced : (h x : HeldLock) (hs : List HeldLock) (l : ℕ) → h.lock ≡ x.lock → cond (nat_eq h.lock l) (Some h) (at l hs) ≡ cond (nat_eq h.lock l) (Some h) (cond (nat_eq x.lock l) (Some x) (at l hs))
    replaced h x hs l same =
        subst (λ n. cond (nat_eq h.lock l) (Some h) (at l hs) ≡ cond (nat_eq h.lock l) (Some h) (cond (nat_eq n l) (Some x) (at l hs))) same
        (elim (nat_eq h.lock l) as (λ b. cond b (Some h) (at l hs) ≡ cond b (Some h) (cond b (Some x) (at l hs))) [ true ↦ refl | false ↦ refl ])

    swapped : (h x : HeldLock) (rest : Option HeldLock) (l : ℕ) → nat_eq h.lock x.lock ≡ false → cond (nat_eq x.lock l) (Some x) (cond (nat_eq h.lock l) (Some h) rest) ≡ cond (nat_eq h.lock l) (Some h) (cond (nat_eq x.lock l) (Some x) rest)
    swapped h x rest l other =
        elim (nat_eq x.lock l) as (λ b. nat_eq x.lock l ≡ b → cond b (Some x) (cond (nat_eq h.lock l) (Some h) rest) ≡ cond (nat_eq h.lock l) (Some h) (cond b (Some x) rest)) [
          | true ↦ λ is. ap (λ b. cond b (Some h) (Some x)) (sym (subst (λ n. nat_eq h.lock n ≡ false) (eqb-true x.lock l is) other))
          | false ↦ λ _. refl
        ] refl

either : (b : Bool) (x : Option HeldLock) → x ≡ cond b x x
either true x = refl
either false x = refl

find_without : (k : ℕ) (hs : List HeldLock) (l : ℕ) → at l (without_lock k hs) ≡ cond (nat_eq k l) None (at l hs)
find_without k [] l = either (nat_eq k l) None
find_without k (x ∷ hs) l =
    elim (nat_eq x.lock k) as (λ b. nat_eq x.lock k ≡ b → at l (cond (not b) (x ∷ without_lock k hs) (without_lock k hs)) ≡ cond (nat_eq k l) None (at l (x ∷ hs))) [
      | true ↦ λ same. find_without k hs l ∙ subst (λ n. cond (nat_eq k l) None (at l hs) ≡ cond (nat_eq k l) None (cond (nat_eq n l) (Some x) (at l hs))) (sym (eqb-true x.lock k same))
          (elim (nat_eq k l) as (λ b. cond b None (at l hs) ≡ cond b None (cond b (Some x) (at l hs))) [ true ↦ refl | false ↦ refl ])
      | false ↦ λ other. ap (cond (nat_eq x.lock l) (Some x)) (find_without k hs l)
          ∙ (elim (nat_eq k l) as (λ b. nat_eq k l ≡ b → cond (nat_eq x.lock l) (Some x) (cond b None (at l hs)) ≡ cond b None (cond (nat_eq x.lock l) (Some x) (at l hs))) [
            | true ↦ λ is. ap (λ b. cond b (Some x) None) (subst (λ n. nat_eq x.lock n ≡ false) (eqb-true k l is) other)
            | false ↦ λ _. refl
          ] refl)
    ] refl

locked : (u k t l : ℕ) (write : Bool) (hs : List HeldLock) (before : Option Bool) → option_map (λ h. h.write) (at l hs) ≡ before →
    option_map (λ h. h.write) (at l (cond (nat_eq u t) (with_hold (record { lock = k; write = write }) hs) hs)) ≡ cond (nat_eq u t && nat_eq k l) (Some write) before
locked u k t l write hs before h =
    elim (nat_eq u t) as (λ b. option_map (λ h. h.write) (at l (cond b (with_hold (record { lock = k; write = write }) hs) hs)) ≡ cond (b && nat_eq k l) (Some write) before) [
      | true ↦ ap (option_map (λ (h : HeldLock). h.write)) (find_with (record { lock = k; write = write }) hs l)
          ∙ elim (nat_eq k l) as (λ b. option_map (λ h. h.write) (cond b (Some (record { lock = k; write = write })) (at l hs)) ≡ cond b (Some write) before) [ true ↦ refl | false ↦ h ]
      | false ↦ h
    ]

unlocked : (u k t l : ℕ) (hs : List HeldLock) (before : Option Bool) → option_map (λ h. h.write) (at l hs) ≡ before →
    option_map (λ h. h.write) (at l (cond (nat_eq u t) (without_lock k hs) hs)) ≡ cond (nat_eq u t && nat_eq k l) None before
unlocked u k t l hs before h =
    elim (nat_eq u t) as (λ b. option_map (λ h. h.write) (at l (cond b (without_lock k hs) hs)) ≡ cond (b && nat_eq k l) None before) [
      | true ↦ ap (option_map (λ (h : HeldLock). h.write)) (find_without k hs l)
          ∙ elim (nat_eq k l) as (λ b. option_map (λ h. h.write) (cond b None (at l hs)) ≡ cond b None before) [ true ↦ refl | false ↦ h ]
      | false ↦ h
    ]

pub held_by_last : (past : List Event) (t l : ℕ) → option_map (λ h. h.write) (find (λ h. nat_eq h.lock l) (held past t)) ≡ mode_held past t l
held_by_last [] t l = refl
held_by_last (Lock u k ∷ past) t l = locked u k t l true (held past t) (mode_held past t l) (held_by_last past t l)
held_by_last (RdLock u k ∷ past) t l = locked u k t l false (held past t) (mode_held past t l) (held_by_last past t l)
held_by_last (Unlock u k ∷ past) t l = unlocked u k t l (held past t) (mode_held past t l) (held_by_last past t l)
held_by_last (Fork p c ∷ past) t l = held_by_last past t l
held_by_last (Join p c ∷ past) t l = held_by_last past t l
held_by_last (Read a ∷ past) t l = held_by_last past t l
held_by_last (Write a ∷ past) t l = held_by_last past t l
held_by_last (Alloc b ∷ past) t l = held_by_last past t l
held_by_last (Free b ∷ past) t l = held_by_last past t l
held_by_last (Send u k ∷ past) t l = held_by_last past t l
held_by_last (Recv u k ∷ past) t l = held_by_last past t l
