use Rattle.std.proofs.Common.{length, ◌+◌, ◌*◌}
use Rattle.hg_reading.proofs.side_by_side.+beside.Given as goal

abbrev pub decreases-offer_beside_one-join_mut+arg3 : goal.decreases-offer_beside_one-join_mut+arg3
decreases-offer_beside_one-join_mut+arg3 g l = 3 * length l.others.now + 1

abbrev pub decreases-offer_beside : goal.decreases-offer_beside
decreases-offer_beside g l = 3 * length l.next.now

abbrev pub decreases-offer_beside_one : goal.decreases-offer_beside_one
decreases-offer_beside_one g l = 3 * length l.others.now + 2
