use Rattle.hg_shards.specs.Routing.{items_of}
use Rattle.hg_shards.proofs.Routed.{lists_ready}
use Rattle.hg_shards.proofs.shards.Shards.offer_routes.Goals as goal

pub invariant_of-self : goal.invariant_of-self
invariant_of-self g c =
    record {
      ready =
          lists_ready c.args.source c.args.first c.common.result.now c.count.result c.args.self.now.shards.len c.args.self.now.shards.items c.deref_mut.result.now (items_of c.lists.result.now)
          c.offer_lists_side_by_side.result c.offer_lists_side_by_side.new.shards c.args.self.now.ready c.offer_lists_side_by_side.ensures;
    }
