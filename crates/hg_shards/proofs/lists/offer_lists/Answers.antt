use Rattle.std.proofs.Common.{None, refl, ◌∙◌}
use Rattle.hg_shards.proofs.Growing.{grows_not}
use Rattle.hg_shards.proofs.Seeing.{begins_way, end_lists, seen_common, seen_own, stop_common, stop_own}
use Rattle.hg_shards.proofs.lists.offer_lists.Goals as goal

pub loop-item-init : goal.loop-item-init
loop-item-init c = (
  refl,
  c.requires,
  λ events own common many fits. begins_way c.args.shard.now c.args.source c.args.first events c.args.own.now c.args.common.now c.requires own common,
  grows_not c.args.shard.now,
)

pub returns-in-Some : goal.returns-in-Some
returns-in-Some c =
    stop_own c.args.shard.now c.args.source c.args.first c.args.own.now c.args.common.now c.args.count c.ranges.count.fits c.loop-item.next c.loop-item.mine.now c.loop-item.all.now c.loop-item.shard c.loop-item.invariant
    c.saturating_sub-gap.result 0 c.offer_own.result c.offer_own.new.shard c.in-Own.item c.in-Own.ensures.0 c.in-Own.ensures.1 c.in-Own.ensures.2 c.saturating_sub-gap.ensures c.offer_own.ensures c.in-Some.cause c.in-Some.is

pub loop-item-preserved-in-Own : goal.loop-item-preserved-in-Own
loop-item-preserved-in-Own c =
    seen_own c.args.shard.now c.args.source c.args.first c.args.own.now c.args.common.now c.args.count c.ranges.count.fits c.loop-item.next c.loop-item.mine.now c.loop-item.all.now c.loop-item.shard c.loop-item.invariant
    c.saturating_sub-gap.result c.saturating_add-next.result c.offer_own.result c.offer_own.new.shard c.in-Own.item c.in-Own.ensures.0 c.in-Own.ensures.1 c.in-Own.ensures.2 c.saturating_sub-gap.ensures c.offer_own.ensures
    _ c.in_default.is c.saturating_add-next.ensures refl

pub returns-in-Some-offer_common : goal.returns-in-Some-offer_common
returns-in-Some-offer_common c =
    stop_common c.args.shard.now c.args.source c.args.first c.args.own.now c.args.common.now c.args.count c.ranges.count.fits c.loop-item.next c.loop-item.mine.now c.loop-item.all.now c.loop-item.shard c.loop-item.invariant
    c.saturating_sub-gap-in-Common.result 0 c.offer_common.result c.offer_common.new.shard c.in-Common.item c.in-Common.ensures.0 c.in-Common.ensures.1 c.in-Common.ensures.2 c.saturating_sub-gap-in-Common.ensures
    c.offer_common.ensures c.in-Some-offer_common.cause c.in-Some-offer_common.is

pub loop-item-preserved : goal.loop-item-preserved
loop-item-preserved c =
    seen_common c.args.shard.now c.args.source c.args.first c.args.own.now c.args.common.now c.args.count c.ranges.count.fits c.loop-item.next c.loop-item.mine.now c.loop-item.all.now c.loop-item.shard c.loop-item.invariant
    c.saturating_sub-gap-in-Common.result c.saturating_add-next-in-Common.result c.offer_common.result c.offer_common.new.shard c.in-Common.item c.in-Common.ensures.0 c.in-Common.ensures.1 c.in-Common.ensures.2
    c.saturating_sub-gap-in-Common.ensures c.offer_common.ensures _ c.in_default-offer_common.is c.saturating_add-next-in-Common.ensures refl

pub returns-in-End : goal.returns-in-End
returns-in-End c =
    end_lists c.args.shard.now c.args.source c.args.first c.args.own.now c.args.common.now c.args.count c.ranges.count.fits c.loop-item.next c.loop-item.mine.now c.loop-item.all.now c.loop-item.shard c.loop-item.invariant
    c.from.result 0 None c.pass_all.new.self c.in-End.ensures.0 c.in-End.ensures.1 (c.from.ensures ∙ c.saturating_sub.ensures) c.pass_all.ensures
