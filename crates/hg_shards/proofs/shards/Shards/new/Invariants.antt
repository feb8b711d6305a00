use Rattle.hg_shards.specs.Batches.{BeginUpTo}
use Rattle.hg_shards.proofs.shards.Shards.new.Given as goal

abbrev pub invariant-loop-part : goal.invariant-loop-part
invariant-loop-part l = BeginUpTo l.part l.count l.most_sets l.shards.items
