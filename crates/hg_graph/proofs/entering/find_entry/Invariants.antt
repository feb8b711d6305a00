use Rattle.hg_graph.proofs.Behind.{Enters}
use Rattle.hg_graph.proofs.entering.find_entry.Given as goal

-- none so far is the entry
abbrev pub invariant-loop-at : goal.invariant-loop-at
invariant-loop-at l = Enters l.segments l.from l.to l.at l.reached.items
