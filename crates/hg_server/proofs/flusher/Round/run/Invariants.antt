use Rattle.hg_server.specs.Flushing.{EndsCheckpoints}
use Rattle.hg_server.proofs.flusher.Round.run.Given as goal

abbrev pub invariant-loop : goal.invariant-loop
invariant-loop g l = EndsCheckpoints l.fn.self.seat.share l.self.seat.share
