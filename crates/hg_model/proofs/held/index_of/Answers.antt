use Rattle.std.proofs.Common.{sym, subst, arith, ◌<◌, length, ◌≡◌, get_or, ℕ, false}
use Rattle.std.specs.List.{remove}
use Rattle.hg_model.specs.declared.held.HeldLock.{HeldLock}
use Rattle.hg_model.specs.Locks.{without_lock}
use Rattle.hg_model.proofs.Rising.{removed, kept, from_increasing}
use Rattle.hg_model.proofs.held.index_of.Goals as goal
use Rattle.hg_model.proofs.held.index_of.Goals.{else-place-holds-via-then-place-holds+else-holds-place, else-place-holds-via-else-place-holds}

pub returns-then-holds-place : goal.returns-then-holds-place
returns-then-holds-place c =
    let hs = c.args.holds.now in
    let l = c.args.lock in (
      c.if-place-holds.true,
      subst (λ (i : ℕ). i < length hs → (get_or hs i (record { lock = 0; write = false })).lock ≡ l → remove hs i ≡ without_lock l hs) (sym c.place_of-place.ensures.place)
          (removed (λ (h : HeldLock). h.lock) l 0 hs (record { lock = 0; write = false }) (from_increasing 0 _ (λ _. omega arith) c.requires)) c.if-place-holds.true c.if-holds-place.true,
    )

pub returns-else-place-holds : goal.returns-else-place-holds
returns-else-place-holds c =
    let hs = c.args.holds.now in
    let l = c.args.lock in
    subst (λ (i : ℕ). (i < length hs → (get_or hs i (record { lock = 0; write = false })).lock ≡ l → ⊥) → without_lock l hs ≡ hs) (sym c.place_of-place.ensures.place)
    (kept (λ (h : HeldLock). h.lock) l 0 hs (record { lock = 0; write = false }) (from_increasing 0 _ (λ _. omega arith) c.requires))
    (elim c.else-place-holds.branch [
      | else-place-holds-via-then-place-holds+else-holds-place w ↦ λ lt is. w.if-holds-place.false is
      | else-place-holds-via-else-place-holds w ↦ λ lt is. absurd (omega arith)
    ])
