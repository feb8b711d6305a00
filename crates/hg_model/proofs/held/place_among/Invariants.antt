use Rattle.std.proofs.Common.{◌≡◌, ℕ, ◌<◌, false, nat_le, get_or}
use Rattle.hg_model.proofs.held.place_among.Given as goal

-- each number so far is less
abbrev pub invariant-loop-i : goal.invariant-loop-i
invariant-loop-i l = (k : ℕ) (d : ℕ) → k < l.i → nat_le l.number (get_or l.numbers k d) ≡ false
