use Rattle.std.proofs.Common.{◌≡◌, ℕ, length, refl, sym, ap, ◌∙◌, subst}
use Rattle.hg_shards.specs.declared.shards.Shards.{Shards}
use Rattle.hg_shards.specs.Routing.{items_of}
use Rattle.hg_shards.specs.Together.{parts_taken}
use Rattle.hg_shards.proofs.Routed.{if_ok_on, judges_routes, lists_many}
use Rattle.hg_shards.proofs.judge.Judge.offer_routes.Goals as goal

pub invariant_of-self : goal.invariant_of-self
invariant_of-self g c =
    let old = c.args.self.now in
    let routes = c.args.routes.now in
    record {
      least = old.least;
      greatest = old.greatest;
      counts = subst (λ (n : ℕ). parts_taken n old.taking ≡ n)
          (sym (lists_many c.args.source c.args.first routes.common.items routes.count old.shards.shards.items (items_of routes.lists.items) c.offer_routes-found.result c.offer_routes-found.new.self.shards.items
          c.offer_routes-found.ensures)) old.counts;
    }

pub returns-clause-parts : goal.returns-clause-parts
returns-clause-parts g c =
    let routes = c.args.routes.now in
    ap (λ (s : Shards). length s.shards.items) c.conclude.ensures.shards
    ∙ lists_many c.args.source c.args.first routes.common.items routes.count c.args.self.now.shards.shards.items (items_of routes.lists.items) c.offer_routes-found.result c.offer_routes-found.new.self.shards.items
    c.offer_routes-found.ensures

pub returns-clause-judged : goal.returns-clause-judged
returns-clause-judged g c =
    if_ok_on c.conclude.result
    (λ stop end.
    judges_routes c.args.self.now _ c.conclude.new.self c.args.source c.args.first c.args.routes.now c.offer_routes-found.result stop c.offer_routes-found.ensures c.requires refl refl refl c.conclude.ensures.limit c.conclude.ensures.shards c.count.result
    c.count.ensures end)
    c.conclude.ensures.stop
