use Rattle.hg_shards.proofs.Seeing.{offers_next}
use Rattle.hg_shards.proofs.lists.offer_common.Goals as goal

pub returns : goal.returns
returns c =
    offers_next c.args.shard.now c.pass_all.new.self c.offer-answer.new.self c.args.source c.args.first c.args.gap c.args.common.place c.from.result c.from-2.result c.saturating_add-number.result c.args.common.event
    c.offer-answer.result c.unaccepted.result c.from.ensures c.from-2.ensures c.saturating_add-number.ensures c.pass_all.ensures c.unaccepted.ensures c.offer-answer.ensures.answers c.offer-answer.ensures.passes
    c.offer-answer.ensures.grows
