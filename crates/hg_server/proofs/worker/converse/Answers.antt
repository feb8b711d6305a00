use Rattle.std.proofs.Common.{rules, arith, ◌≡◌, ◌++◌, [], take, ap, subst}
use Rattle.hg_streams.specs.Calls.{given}
use Rattle.hg_server.specs.Talking.{Ends, IsTalk}
use Rattle.hg_server.specs.declared.worker.Course.{Course}
use Rattle.hg_server.specs.declared.worker.Course.TheVariants as course
use Rattle.hg_server.proofs.Talking.{begun, heard_on}
use Rattle.hg_server.proofs.worker.converse.Goals as goal

pub loop-init : goal.loop-init
loop-init g c =
    let talk = c.args.talk.now in
    let new = c.requires.new in
    (omega arith, omega arith, begun g.D.Disk g.A.Opening.start c.args.seat.now.share talk.desk talk.wire.reads talk.wire.writes talk.replies.items talk.feed.left new.desk new.reads new.writes new.held new.left, new.held)

pub loop-preserved : goal.loop-preserved
loop-preserved g c =
    let start = g.A.Opening.start in
    let first = c.args.seat.now.share in
    let talk = c.loop.talk in
    let told = c.loop.seat.share in
    let wire = c.read.new.self in
    let piece = take c.in-Ok.len c.read.new.buffer in
    let heard : given wire.reads ≡ given talk.wire.reads ++ piece = ap given c.in-Ok.ensures.reads in
    let p = heard_on g.D.Disk start first talk.desk told talk.wire.reads wire.reads talk.wire.writes talk.replies.items [] talk.feed.left piece heard c.loop.invariant.2 in
    let q : IsTalk g.D.Disk start first talk.desk told wire.reads wire.writes talk.replies.items [] [] (talk.feed.left ++ piece) = rw c.in-Ok.ensures.writes p in
    let reads_on : c.take-course.result ≡ course.ReadOn = search rules in
    let after = c.take-course.new.seat.share in
    let ends : Ends g.D.Disk start first course.ReadOn c.take-course.new.self after =
    subst (λ (k : Course). Ends g.D.Disk start first k c.take-course.new.self after) reads_on (c.take-course.ensures.taken first q) in
    (omega (arith, c.loop.invariant.0, c.take-course.ensures.accepted), omega (arith, c.loop.invariant.1, c.take-course.ensures.durable), ends.0, ends.1)
