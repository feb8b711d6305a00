use Rattle.std.proofs.Common.{◌≤◌}
use Rattle.hg_server.specs.Talking.{WereHeld}
use Rattle.hg_server.proofs.worker.worker.Given as goal

abbrev pub invariant-loop : goal.invariant-loop
invariant-loop g l =
    (l.fn.seat.share.accepted ≤ l.seat.share.accepted) × (l.fn.seat.share.durable ≤ l.seat.share.durable)
    × WereHeld g.D.Disk g.A.Opening.start l.fn.seat.share l.held l.seat.share
