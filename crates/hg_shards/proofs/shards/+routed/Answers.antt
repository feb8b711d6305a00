use Rattle.std.proofs.Common.{◌≡◌, length, rules, arith, ◌∙◌}
use Rattle.hg_shards.specs.Routed.{TakeLists}
use Rattle.hg_shards.specs.Routing.{items_of}
use Rattle.hg_shards.proofs.Routed.{both_items, first_items, halves_of, list_alone, lists_halves}
use Rattle.hg_shards.proofs.shards.+routed.Goals as goal

pub returns-then-shards-eq1 : goal.returns-then-shards-eq1
returns-then-shards-eq1 g t c =
    let one : length c.args.shards.now ≡ 1 = (let is = c.if-shards-eq1.true in omega (arith, is)) in
    let same = c.requires.same in
    list_alone c.args.source c.args.first c.args.common.now c.args.count c.args.shards.now (items_of c.args.lists.now) c.index-shards-0.result c.offer_lists.new.shard c.deref.result.now c.offer_lists.result one
    (first_items c.args.lists.now ∙ same) (c.deref.ensures.value ∙ both_items c.args.lists.now c.index-lists-0.result (omega (arith, one, same)) c.index-lists-0.is) c.offer_lists.ensures

pub returns : goal.returns
returns g t c =
    let front : TakeLists c.args.source c.args.first c.args.common.now c.args.count c.split_at_mut-front.result.0.now (items_of c.split_at.result.0.now) c.join_mut-front_stop.result.0 c.front-1.given.0 = search rules in
    let back : TakeLists c.args.source c.args.first c.args.common.now c.args.count c.split_at_mut-front.result.1.now (items_of c.split_at.result.1.now) c.join_mut-front_stop.result.1 c.back-1.given.0 = search rules in
    lists_halves c.args.source c.args.first c.args.common.now c.args.count c.args.shards.now c.split_at_mut-front.result.0.now c.split_at_mut-front.result.1.now (items_of c.args.lists.now)
    (items_of c.split_at.result.0.now) (items_of c.split_at.result.1.now) c.earlier.result c.join_mut-front_stop.result.0 c.join_mut-front_stop.result.1 c.front-1.given.0 c.back-1.given.0 c.split_at_mut-front.ensures.value
    (halves_of _ c.args.lists.now c.split_at.result.0.now c.split_at.result.1.now c.split_at.ensures.front c.split_at.ensures.back) c.earlier.ensures front back
