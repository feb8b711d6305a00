use Rattle.std.proofs.Common.{length, ◌+◌, ◌*◌}
use Rattle.hg_shards.proofs.shards.+routed.Given as goal

abbrev pub decreases-join_mut+arg2 : goal.decreases-join_mut+arg2
decreases-join_mut+arg2 g l = 2 * length l.front.now + 1

abbrev pub decreases-join_mut+arg3 : goal.decreases-join_mut+arg3
decreases-join_mut+arg3 g l = 2 * length l.back.now + 1

abbrev pub decreases-offer_lists_side_by_side : goal.decreases-offer_lists_side_by_side
decreases-offer_lists_side_by_side g l = 2 * length l.shards.now
