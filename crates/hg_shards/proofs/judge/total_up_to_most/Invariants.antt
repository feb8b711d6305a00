use Rattle.std.proofs.Common.{◌≡◌, ◌<◌, ◌^◌, take}
use Rattle.hg_shards.specs.Reading.{total_of}
use Rattle.hg_shards.proofs.judge.total_up_to_most.Given as goal

abbrev pub invariant-loop-shard : goal.invariant-loop-shard
invariant-loop-shard l = total_of l.shards < 2 ^ 64 → l.total ≡ total_of (take l.shard-index l.shards)
