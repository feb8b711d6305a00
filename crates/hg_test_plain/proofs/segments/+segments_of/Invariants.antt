use Rattle.std.proofs.Common.{length}
use Rattle.hg_test_plain.proofs.segments.+segments_of.Given as goal

-- proposed from what the function passes where it calls itself
abbrev pub decreases-segments_of : goal.decreases-segments_of
decreases-segments_of l = length l.past.now
