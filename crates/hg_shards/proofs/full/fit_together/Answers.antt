use Rattle.std.proofs.Common.{ap, sym, arith, length}
use Rattle.std.proofs.lemmas.Bool.{lt-leb}
use Rattle.std.proofs.lemmas.List.Sums.{sum_by_more_le}
use Rattle.hg_shards.specs.declared.shard.Shard.{Shard}
use Rattle.hg_shards.specs.Filling.{logged}
use Rattle.hg_shards.specs.Logging.{Log}
use Rattle.hg_shards.proofs.full.fit_together.Goals as goal

pub returns-then-sets-left : goal.returns-then-sets-left
returns-then-sets-left c =
    let parts = c.args.parts.now in
    let so_far = c.loop-part.invariant in
    let more = sum_by_more_le (λ (s : Shard). length s.log.events) parts c.loop-part.part-index c.part-item.result c.loop-part-test.true in
    let item = ap (λ (s : Shard). length s.log.events) c.part-item.is in
    let log = ap (λ (l : Log). length l.events) c.log.ensures in
    let count = c.len-sets.ensures.count in
    let lt = c.if-sets-left.true in
    sym (lt-leb (logged parts) c.args.limit (omega (arith, so_far, more, item, log, count, lt)))
