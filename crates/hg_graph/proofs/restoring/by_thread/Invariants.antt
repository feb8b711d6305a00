use Rattle.hg_graph.proofs.Needing.{AreStill, MovedUpto}
use Rattle.hg_graph.proofs.restoring.by_thread.Given as goal

-- the threads so far have their clocks, and those of the others still stand
abbrev pub invariant-loop-t : goal.invariant-loop-t
invariant-loop-t l = AreStill l.present l.t l.initial.clocks.items l.clocks.items × MovedUpto l.present l.t l.initial.clocks.items l.moved.items
