use Rattle.std.proofs.Common.{List, sym, subst, ◌+◌}
use Rattle.hg_shards.specs.declared.shard.Shard.{Shard}
use Rattle.hg_shards.specs.Batches.{BeginUpTo}
use Rattle.hg_shards.proofs.Batches.{begins_more}
use Rattle.hg_shards.proofs.shards.Shards.new.Goals as goal

pub loop-part-preserved : goal.loop-part-preserved
loop-part-preserved c =
    subst (λ (shards : List Shard). BeginUpTo (c.loop-part.part + 1) c.args.count c.args.most_sets shards) (sym c.in_ok-push.ensures.items)
    (begins_more c.loop-part.part c.args.count c.args.most_sets c.loop-part.shards.items c.in_ok-new.field-0 c.loop-part.invariant c.in_ok-new.ensures.begins)
