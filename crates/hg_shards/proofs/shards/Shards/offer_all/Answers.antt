use Rattle.hg_shards.proofs.Batches.{ready_lent}
use Rattle.hg_shards.proofs.shards.Shards.offer_all.Goals as goal

pub invariant_of-self : goal.invariant_of-self
invariant_of-self g c =
    record {
      ready = ready_lent c.args.self.now.shards.len c.args.self.now.shards.items c.deref_mut.result.now c.args.events.now c.offer_side_by_side.result c.offer_side_by_side.new.shards c.args.self.now.ready c.offer_side_by_side.ensures;
    }
