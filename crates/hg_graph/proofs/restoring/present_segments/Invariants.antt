use Rattle.hg_graph.proofs.Lawful.{IsTable}
use Rattle.hg_graph.proofs.restoring.present_segments.Given as goal

-- the table is that of the segments so far
abbrev pub invariant-loop-number : goal.invariant-loop-number
invariant-loop-number l = IsTable l.segments l.number l.table.items
