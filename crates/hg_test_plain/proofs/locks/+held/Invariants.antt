use Rattle.std.proofs.Common.{length}
use Rattle.hg_test_plain.proofs.locks.+held.Given as goal

-- proposed from what the function passes where it calls itself
abbrev pub decreases-held : goal.decreases-held
decreases-held l = length l.past.now
