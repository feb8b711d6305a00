use Rattle.std.proofs.Common.{ap, arith}
use Rattle.hg_sets.specs.Interning.{Table}
use Rattle.hg_shards.proofs.Noting.{offer_grows}
use Rattle.hg_shards.proofs.shard.Shard.judge.Goals as goal

pub note-requires : goal.note-requires
note-requires c =
    let old = c.args.self.now in
    let grows = offer_grows _ old.detector _ c.touch-answer.result c.touch-answer.new.self c.requires.ready.whole c.touch-answer.ensures in
    let most = c.len-sets.ensures.sets.within in
    let count = c.len-sets.ensures.len in
    let is = ap (λ (t : Table). t.limit) c.sets.ensures in
    let same = grows.limit in
    let limit = c.requires.ready.log.limit in
    omega (arith, most, count, is, same, limit)
