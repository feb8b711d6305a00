use Rattle.std.proofs.Common.{length}
use Rattle.hg_test_plain.proofs.sharing.+shared_from.Given as goal

-- proposed from what the function passes where it calls itself
abbrev pub decreases-shared_from : goal.decreases-shared_from
decreases-shared_from l = length l.items.now
