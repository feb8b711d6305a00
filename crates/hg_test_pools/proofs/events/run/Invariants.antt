use Rattle.hg_detect.specs.Engine.{AtPresent}
use Rattle.hg_test_pools.proofs.events.run.Given as goal

abbrev pub invariant-loop : goal.invariant-loop
invariant-loop g l = AtPresent g.W.Words.may_bring l.detector
