use Rattle.hg_detect.specs.Memory.{IsWhole}
use Rattle.hg_test_detector.proofs.tests.shards.refused_by_one.Given as goal

abbrev pub invariant-loop-judged : goal.invariant-loop-judged
invariant-loop-judged g l = IsWhole l.whole.it
