use Rattle.std.proofs.Common.{length}
use Rattle.hg_test_plain.proofs.segments.+last_of.Given as goal

-- proposed from what the function passes where it calls itself
abbrev pub decreases-last_of : goal.decreases-last_of
decreases-last_of l = length l.segments.now
