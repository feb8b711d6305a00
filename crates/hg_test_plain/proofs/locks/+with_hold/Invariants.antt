use Rattle.std.proofs.Common.{length}
use Rattle.hg_test_plain.proofs.locks.+with_hold.Given as goal

-- proposed from what the function passes where it calls itself
abbrev pub decreases-with_hold : goal.decreases-with_hold
decreases-with_hold l = length l.holds.now
