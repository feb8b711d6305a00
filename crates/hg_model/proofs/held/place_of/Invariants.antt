use Rattle.std.proofs.Common.{◌≡◌, ℕ, ◌<◌, false, nat_le, get_or}
use Rattle.hg_model.specs.declared.held.HeldLock.{HeldLock}
use Rattle.hg_model.proofs.held.place_of.Given as goal

-- each lock so far is of lesser number
abbrev pub invariant-loop-i : goal.invariant-loop-i
invariant-loop-i l = (k : ℕ) (d : HeldLock) → k < l.i → nat_le l.lock (get_or l.holds k d).lock ≡ false
