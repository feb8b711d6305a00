use Rattle.std.proofs.Common.{length}
use Rattle.hg_desk.proofs.shared.+compare_each.Given as goal

abbrev pub decreases-compare_each : goal.decreases-compare_each
decreases-compare_each g l = length l.shares.now
