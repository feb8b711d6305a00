use Rattle.std.proofs.Common.{length}
use Rattle.hg_reading.proofs.side_by_side.+offer_groups.Given as goal

abbrev pub decreases-offer_groups : goal.decreases-offer_groups
decreases-offer_groups g l = length l.left.rest.now
