use Rattle.hg_pool.specs.OfWords.{MayBring}
use Rattle.hg_detect.specs.Engine.{AtPresent}
use Rattle.hg_test_pools.proofs.maps.run_with_checkpoints.Given as goal

abbrev pub invariant-loop : goal.invariant-loop
invariant-loop l = AtPresent MayBring l.detector
