use Rattle.std.proofs.Common.{◌≡◌, ◌≤◌, ℕ, List, length}
use Rattle.hg_desk.specs.Told.{Told}
use Rattle.hg_server.specs.Talking.{IsAt}
use Rattle.hg_server.proofs.worker.Talk.answer_all.Given as goal

abbrev pub invariant-loop-rest : goal.invariant-loop-rest
invariant-loop-rest g l =
    (l.fn.seat.share.accepted ≤ l.seat.share.accepted) × (l.fn.seat.share.durable ≤ l.seat.share.durable) × (l.self.feed ≡ l.fn.self.feed)
    × ((first : Told) (tail : List ℕ) → IsAt g.D.Disk g.A.Opening.start first l.fn.self l.fn.seat.share l.frames tail → IsAt g.D.Disk g.A.Opening.start first l.self l.seat.share l.rest tail)

abbrev pub decreases-loop-rest : goal.decreases-loop-rest
decreases-loop-rest g l = length l.rest
