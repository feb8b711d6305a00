use Rattle.std.proofs.Common.{◌∙◌, ap, arith, List, ℕ}
use Rattle.hg_disk.specs.State.{DiskState, overwritten, settled}
use Rattle.hg_disk.proofs.Moments.{joined}
use Rattle.hg_gate.specs.Batches.{IsClosed}
use Rattle.hg_gate.proofs.Basing.{put}
use Rattle.hg_gate.proofs.Gates.{on_ok, sync_shut, write_shut, written_kept}
use Rattle.hg_gate.proofs.based.put_behind.Goals as goal

pub returns-in_err-write_at-clause-any_moment : goal.returns-in_err-write_at-clause-any_moment
returns-in_err-write_at-clause-any_moment g c gate rest h closed =
    let disk = g.D.Disk in
    let d1 = c.cut_to_gate.new.disk in
    let d2 = c.write_at.new.self in
    joined disk c.args.disk.now d1 d2 IsClosed (c.cut_to_gate.ensures.any_moment gate rest h closed)
    (write_shut disk gate closed d1 d2 1 c.args.bytes.now c.write_at.result (omega arith) (c.in_ok-cut_to_gate.ensures.cut gate rest h).1 c.write_at.ensures.ok c.write_at.ensures.err c.write_at.ensures.clock c.write_at.ensures.kept)

pub returns-clause-any_moment : goal.returns-clause-any_moment
returns-clause-any_moment g c gate rest h closed =
    let disk = g.D.Disk in
    let d1 = c.cut_to_gate.new.disk in
    let d2 = c.write_at.new.self in
    let d3 = c.sync.new.self in
    let kept1 = (c.in_ok-cut_to_gate.ensures.cut gate rest h).1 in
    let kept2 = written_kept (disk.state d1) (disk.state d2) gate 1 c.args.bytes.now (omega arith) kept1 c.in_ok-write_at.ensures.ok in
    let first = joined disk c.args.disk.now d1 d2 IsClosed (c.cut_to_gate.ensures.any_moment gate rest h closed)
    (write_shut disk gate closed d1 d2 1 c.args.bytes.now c.write_at.result (omega arith) kept1 c.write_at.ensures.ok c.write_at.ensures.err c.write_at.ensures.clock c.write_at.ensures.kept) in
    joined disk c.args.disk.now d2 d3 IsClosed first (sync_shut disk gate closed d2 d3 c.sync.result g.met.D.Disk.has_its_bytes kept2 c.sync.ensures.ok c.sync.ensures.err c.sync.ensures.clock c.sync.ensures.kept)

pub returns-clause-written : goal.returns-clause-written
returns-clause-written g c gate rest h =
    let one = (c.in_ok-cut_to_gate.ensures.cut gate rest h).0 in
    on_ok c.sync.result (λ synced. synced ∙ ap settled (ap (λ (s : DiskState). s.contents) c.in_ok-write_at.ensures.ok ∙ ap (λ (l : List ℕ). overwritten l 1 c.args.bytes.now) one ∙ put gate c.args.bytes.now)) c.sync.ensures.ok
