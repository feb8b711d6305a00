use Rattle.std.proofs.Common.{arith, sym, ◌∙◌}
use Rattle.hg_shards.proofs.Taking.{best_is_next, best_is_none}
use Rattle.hg_shards.proofs.merge.next_of.Goals as goal
use Rattle.hg_shards.proofs.merge.next_of.Goals.{else-best-heads-via-then-best-heads+else-is_some, else-best-heads-via-else-best-heads}

pub returns-then-is_some : goal.returns-then-is_some
returns-then-is_some c =
    best_is_next c.args.heads.now c.loop-k.best c.loop-k.k c.loop-k.invariant (omega arith) c.if-best-heads.true (sym c.is_some.ensures ∙ c.if-is_some.true)

pub returns : goal.returns
returns c =
    best_is_none c.args.heads.now c.loop-k.best c.loop-k.k c.loop-k.invariant (omega arith)
    (elim c.else-best-heads.branch [
      | else-best-heads-via-then-best-heads+else-is_some w ↦ λ lt. sym w.is_some.ensures ∙ w.if-is_some.false
      | else-best-heads-via-else-best-heads w ↦ λ lt. absurd (omega arith)
    ])
