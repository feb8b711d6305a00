use Rattle.std.proofs.Common.{◌<◌, ◌≤◌, length}
use Rattle.std.specs.List.{AllByRecursion}
use Rattle.hg_root.specs.Grammar.{ThreadFits}
use Rattle.hg_test_roots.proofs.again.threads_of.Given as goal

abbrev pub invariant-loop-number : goal.invariant-loop-number
invariant-loop-number l = (length l.threads.items ≤ l.number) × AllByRecursion (λ t. t.number < 1024) l.threads.items × AllByRecursion ThreadFits l.threads.items
