use Rattle.std.proofs.Common.{◌≡◌, take}
use Rattle.hg_root.proofs.threads.held_of.Given as goal

abbrev pub invariant-loop-i : goal.invariant-loop-i
invariant-loop-i l = l.held ≡ take l.i l.locks
