use Rattle.hg_rules.proofs.Restoring.{IsRestoring}
use Rattle.hg_rules.proofs.table.ThreadTable.fill.Given as goal

-- the first threads stand in the table
abbrev pub invariant-loop-thread : goal.invariant-loop-thread
invariant-loop-thread l = IsRestoring l.threads l.self l.thread-index
