use Rattle.std.proofs.Common.{rules, arith, List, subst, sym}
use Rattle.hg_server.specs.Talking.{WasTalk, WereHeld}
use Rattle.hg_server.specs.declared.wire.Transcript.{Transcript}
use Rattle.hg_server.proofs.Talking.{all_acked, held_among, over}
use Rattle.hg_server.proofs.worker.worker.Goals as goal

pub loop-preserved : goal.loop-preserved
loop-preserved g c =
    let start = g.A.Opening.start in
    let told = c.loop.seat.share in
    let after = c.converse-course.new.seat.share in
    let talk = over g.D.Disk start told c.converse-course.result c.converse-course.new.talk after c.converse-course.ensures.talked in
    let one : WasTalk g.D.Disk start told after c.close.result.reads c.close.result.writes = rw (c.close.ensures.reads, c.close.ensures.writes) talk in (
      omega (arith, c.loop.invariant.0, c.converse-course.ensures.accepted),
      omega (arith, c.loop.invariant.1, c.converse-course.ensures.durable),
      subst (λ (l : List Transcript). WereHeld g.D.Disk start c.args.seat.share l after) (sym c.push.ensures) (told, c.loop.invariant.2, one),
    )

pub returns-clause-acks : goal.returns-clause-acks
returns-clause-acks g c =
    let start = g.A.Opening.start in
    let held : WereHeld g.D.Disk start c.args.seat.share c.match-next.held c.match-next.seat.share = search rules in
    held_among g.D.Disk start c.args.seat.share c.match-next.held c.match-next.seat.share held

pub returns-clause-acked : goal.returns-clause-acked
returns-clause-acked g c =
    let start = g.A.Opening.start in
    let held : WereHeld g.D.Disk start c.args.seat.share c.match-next.held c.match-next.seat.share = search rules in
    all_acked g.D.Disk start c.args.seat.share c.match-next.held c.match-next.seat.share held
