use Rattle.hg_rules.proofs.Restoring.{Underway}
use Rattle.hg_rules.proofs.table.ThreadTable.add.Given as goal

-- the thread stands behind the others with its first locks
abbrev pub invariant-loop-hold : goal.invariant-loop-hold
invariant-loop-hold l = Underway l.fn.self l.self l.thread.number l.thread.held l.hold-index
