use Rattle.std.specs.List.{AllByRecursion}
use Rattle.hg_root.specs.Grammar.{LockFits}
use Rattle.hg_test_roots.proofs.again.held_of.Given as goal

abbrev pub invariant-loop-lock : goal.invariant-loop-lock
invariant-loop-lock l = AllByRecursion LockFits l.held
