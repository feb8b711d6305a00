-- Lists of what has a spelling.
use Rattle.std.proofs.Common.{true, false, cond, nat_eq, nat_lt, List, [], ◌∷◌}
use Rattle.std.specs.List.{AllByRecursion}
use Rattle.hg_model.specs.declared.held.HeldLock.{HeldLock}
use Rattle.hg_model.specs.Locks.{with_hold}
use Rattle.hg_root.specs.Grammar.{LockFits}

pub holds_fit : (h : HeldLock) (hs : List HeldLock) → LockFits h → AllByRecursion LockFits hs → AllByRecursion LockFits (with_hold h hs)
holds_fit h [] p all = (p, tt)
holds_fit h (x ∷ hs) p all =
    elim (nat_lt h.lock x.lock) as (λ b. AllByRecursion LockFits (cond b (h ∷ x ∷ hs) (cond (nat_eq h.lock x.lock) (h ∷ hs) (x ∷ with_hold h hs)))) [
      | true ↦ (p, all)
      | false ↦ elim (nat_eq h.lock x.lock) as (λ b. AllByRecursion LockFits (cond b (h ∷ hs) (x ∷ with_hold h hs))) [ true ↦ (p, all.1) | false ↦ (all.0, holds_fit h hs p all.1) ]
    ]
