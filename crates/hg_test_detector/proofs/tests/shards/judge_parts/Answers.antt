use Rattle.std.proofs.Common.{All, List, [], ◌∷◌, zero, suc, sym, subst, arith}
use Rattle.std.proofs.lemmas.List.Elements.{All-append}
use Rattle.hg_shards.specs.declared.shard.Shard.{Shard}
use Rattle.hg_shards.specs.Sharding.{IsReady}
use Rattle.hg_test_detector.proofs.tests.shards.judge_parts.Goals as goal

one : (s : Shard) → IsReady s → All IsReady (s ∷ [])
one s ready zero d lt = ready
one s ready (suc k) d lt = absurd (omega arith)

pub loop-part-preserved : goal.loop-part-preserved
loop-part-preserved g c =
    subst (λ (shards : List Shard). All IsReady shards) (sym c.in_ok-push.ensures.items)
    (All-append IsReady c.loop-part.shards.items (c.offer_part.new.shard ∷ []) c.loop-part.invariant (one c.offer_part.new.shard c.offer_part.ensures))
