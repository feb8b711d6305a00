-- the bytes from the place i on are listed
use Rattle.std.proofs.Common.{◌≡◌, ◌≤◌, length, drop}
use Rattle.hg_trail.proofs.trail.Trail+u8.of.Given as goal

abbrev pub invariant-loop-i : goal.invariant-loop-i
invariant-loop-i l = (l.trail ≡ drop l.i l.bytes) × (l.i ≤ length l.bytes)

abbrev pub decreases-loop-i : goal.decreases-loop-i
decreases-loop-i l = l.i
