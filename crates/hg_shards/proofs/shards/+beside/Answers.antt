use Rattle.std.proofs.Common.{◌≡◌, length, rules, arith}
use Rattle.hg_shards.specs.Batches.{TakeBatch}
use Rattle.hg_shards.proofs.Batches.{alone, halves_take}
use Rattle.hg_shards.proofs.shards.+beside.Goals as goal

pub returns-then-shards-eq1 : goal.returns-then-shards-eq1
returns-then-shards-eq1 g t c =
    let one : length c.args.shards.now ≡ 1 = (let is = c.if-shards-eq1.true in omega (arith, is)) in
    alone c.args.shards.now c.index-shards-0.result c.offer_in_order.new.shard c.args.events.now c.offer_in_order.result one c.offer_in_order.ensures

pub returns : goal.returns
returns g t c =
    let front : TakeBatch c.split_at_mut-front.result.0.now c.args.events.now c.join_mut-one.result.0 c.front-1.given.0 = search rules in
    let back : TakeBatch c.split_at_mut-front.result.1.now c.args.events.now c.join_mut-one.result.1 c.back-1.given.0 = search rules in
    halves_take c.args.shards.now c.split_at_mut-front.result.0.now c.split_at_mut-front.result.1.now c.args.events.now c.earlier.result c.join_mut-one.result.0 c.join_mut-one.result.1
    c.front-1.given.0 c.back-1.given.0 c.split_at_mut-front.ensures.value c.earlier.ensures front back
