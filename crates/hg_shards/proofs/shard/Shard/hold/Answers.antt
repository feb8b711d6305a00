use Rattle.std.proofs.Common.{inl, refl}
use Rattle.hg_model.specs.Holding.{hold_named}
use Rattle.hg_detect.specs.Memory.{content_of}
use Rattle.hg_shards.specs.Sharding.{own_words}
use Rattle.hg_shards.proofs.Going.{offer_goes}
use Rattle.hg_shards.proofs.Noting.{offer_counts, offer_grows, offer_keeps}
use Rattle.hg_shards.proofs.Offering.{no_sets_of_lock, offers_own, own_hold, shard_answers}
use Rattle.hg_shards.proofs.shard.Shard.hold.Goals as goal

pub returns : goal.returns
returns c =
    let old = c.args.self.now in
    let d = c.hold.new.self in
    let h = c.args.hold in
    let n = hold_named c.args.source c.args.number h in
    let whole = c.requires.ready.whole in
    shard_answers old d old.log n c.hold.result c.requires.ready
    (offer_grows _ old.detector n c.hold.result d whole c.hold.ensures)
    (offer_counts _ old.detector n c.hold.result d whole c.hold.ensures)
    (inl (refl, offer_keeps _ old.detector n c.hold.result d whole c.hold.ensures (no_sets_of_lock (content_of old.detector) h.kind h.t h.l)))
    (offer_goes _ old.detector d n c.hold.result whole c.hold.ensures)
    c.hold.ensures.lawful
    (λ trace k. offers_own _ (own_words old) trace old.detector k n c.hold.result d (own_hold (own_words old) (content_of old.detector) h.kind h.t h.l) whole c.hold.ensures)
