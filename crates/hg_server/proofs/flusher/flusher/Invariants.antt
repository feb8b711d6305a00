use Rattle.hg_server.specs.Flushing.{EndsCheckpoints}
use Rattle.hg_server.proofs.flusher.flusher.Given as goal

abbrev pub invariant-loop : goal.invariant-loop
invariant-loop g l = EndsCheckpoints l.fn.seat.share l.round.seat.share
