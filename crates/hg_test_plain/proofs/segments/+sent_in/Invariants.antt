use Rattle.std.proofs.Common.{length}
use Rattle.hg_test_plain.proofs.segments.+sent_in.Given as goal

-- proposed from what the function passes where it calls itself
abbrev pub decreases-sent_in : goal.decreases-sent_in
decreases-sent_in l = length l.segments.now
