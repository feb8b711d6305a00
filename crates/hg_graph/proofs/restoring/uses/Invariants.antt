use Rattle.hg_graph.specs.Needed.{AreUses}
use Rattle.hg_graph.proofs.restoring.uses.Given as goal

-- the segments so far have noted what they stand behind
abbrev pub invariant-loop-number : goal.invariant-loop-number
invariant-loop-number l = AreUses l.segments l.number l.late.items
