use Rattle.std.proofs.Common.{◌≡◌, ◌+◌, ◌^◌, ◌≤◌, List, length}
use Rattle.hg_model.specs.declared.event.Event.{Event}
use Rattle.hg_shards.specs.Routing.{common_from, own_from}
use Rattle.hg_shards.specs.Sharding.{GrowsTo, IsReady}
use Rattle.hg_shards.proofs.Seeing.{IsUnderWay}
use Rattle.hg_shards.proofs.lists.offer_lists.Given as goal

abbrev pub invariant-loop-item : goal.invariant-loop-item
invariant-loop-item l =
    (l.shard ≡ record l.initial.shard { detector = l.shard.detector; log = l.shard.log })
    × IsReady l.shard
    × ((events : List Event) → l.own ≡ own_from l.initial.shard.count l.initial.shard.part 0 events → l.common ≡ common_from 0 events → l.count ≡ length events → l.first + length events ≤ 2 ^ 64
    → IsUnderWay l.initial.shard l.source l.first events l.next l.mine l.all l.shard)
    × GrowsTo l.initial.shard l.shard

abbrev pub decreases-loop-item : goal.decreases-loop-item
decreases-loop-item l = length l.mine + length l.all
