use Rattle.hg_graph.proofs.Clocking.{RaisedUpto}
use Rattle.hg_graph.proofs.clock.raise.Given as goal

abbrev pub invariant-loop-u : goal.invariant-loop-u
invariant-loop-u l = RaisedUpto l.initial.entries l.other l.u l.entries
