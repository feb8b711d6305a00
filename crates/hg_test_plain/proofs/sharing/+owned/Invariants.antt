use Rattle.std.proofs.Common.{length}
use Rattle.hg_test_plain.proofs.sharing.+owned.Given as goal

-- proposed from what the function passes where it calls itself
abbrev pub decreases-owned : goal.decreases-owned
decreases-owned l = length l.items.now
