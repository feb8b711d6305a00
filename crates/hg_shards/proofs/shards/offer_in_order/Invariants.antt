use Rattle.std.proofs.Common.{take}
use Rattle.hg_shards.specs.Batches.{TakesAll}
use Rattle.hg_shards.proofs.shards.offer_in_order.Given as goal

abbrev pub invariant-loop-place : goal.invariant-loop-place
invariant-loop-place l = TakesAll l.initial.shard (take l.place l.events) l.shard
