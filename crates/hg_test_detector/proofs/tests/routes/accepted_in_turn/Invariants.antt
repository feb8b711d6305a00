use Rattle.hg_detect.specs.Memory.{IsWhole}
use Rattle.hg_test_detector.proofs.tests.routes.accepted_in_turn.Given as goal

abbrev pub invariant-loop : goal.invariant-loop
invariant-loop l = IsWhole l.whole
