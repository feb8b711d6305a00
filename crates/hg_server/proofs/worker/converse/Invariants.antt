use Rattle.std.proofs.Common.{◌≡◌, ◌≤◌, []}
use Rattle.hg_server.specs.Talking.{IsAt}
use Rattle.hg_server.proofs.worker.converse.Given as goal

abbrev pub invariant-loop : goal.invariant-loop
invariant-loop g l =
    (l.fn.seat.share.accepted ≤ l.seat.share.accepted) × (l.fn.seat.share.durable ≤ l.seat.share.durable)
    × IsAt g.D.Disk g.A.Opening.start l.fn.seat.share l.talk l.seat.share [] l.talk.feed.left × (l.talk.replies.items ≡ [])
