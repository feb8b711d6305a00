use Rattle.std.proofs.Common.{length}
use Rattle.hg_test_plain.proofs.sets.+with_member.Given as goal

-- proposed from what the function passes where it calls itself
abbrev pub decreases-with_member : goal.decreases-with_member
decreases-with_member l = length l.set.now
