use Rattle.std.proofs.Common.{◌≡◌}
use Rattle.hg_shards.specs.Pushing.{parts_in}
use Rattle.hg_test_detector.proofs.tests.routes.put_all.Given as goal

abbrev pub invariant-loop-named : goal.invariant-loop-named
invariant-loop-named l = parts_in l.routes ≡ parts_in l.initial.routes
