use Rattle.std.proofs.Common.{length}
use Rattle.hg_test_plain.proofs.history.+history_of.Given as goal

-- proposed from what the function passes where it calls itself
abbrev pub decreases-history_of : goal.decreases-history_of
decreases-history_of l = length l.past.now
