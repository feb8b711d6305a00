use Rattle.hg_shards.specs.Seeing.{event_of}
use Rattle.hg_shards.proofs.Seeing.{offers_next}
use Rattle.hg_shards.proofs.lists.offer_own.Goals as goal

pub returns : goal.returns
returns c =
    offers_next c.args.shard.now c.pass_all.new.self c.touch.new.self c.args.source c.args.first c.args.gap c.args.own.place c.from.result c.from-2.result c.saturating_add-number.result (event_of c.args.own) c.touch.result
    c.unaccepted.result c.from.ensures c.from-2.ensures c.saturating_add-number.ensures c.pass_all.ensures c.unaccepted.ensures c.touch.ensures.answers c.touch.ensures.passes c.touch.ensures.grows
