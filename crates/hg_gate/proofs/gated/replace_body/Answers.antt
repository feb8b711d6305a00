use Rattle.std.proofs.Common.{◌+◌, refl, length, arith}
use Rattle.hg_disk.proofs.Moments.{joined}
use Rattle.hg_gate.specs.Batches.{IsClosed}
use Rattle.hg_gate.proofs.Gates.{gate_kept, written_kept, cut_kept, write_shut, cut_shut, sync_shut, on_ok, body_written}
use Rattle.hg_gate.proofs.gated.replace_body.Goals as goal

pub returns-in_err-write_at-clause-any_moment : goal.returns-in_err-write_at-clause-any_moment
returns-in_err-write_at-clause-any_moment g c gate rest h closed =
    let disk = g.D.Disk in
    let d0 = c.args.disk.now in
    let d1 = c.write_at.new.self in
    let number = c.to_be_bytes.result in
    let kept0 = gate_kept (disk.state d0) gate rest h in
    let first = write_shut disk gate closed d0 d1 1 number c.write_at.result (omega arith) kept0 c.write_at.ensures.ok c.write_at.ensures.err c.write_at.ensures.clock c.write_at.ensures.kept in
    first

pub returns-in_err-write_at-2-clause-any_moment : goal.returns-in_err-write_at-2-clause-any_moment
returns-in_err-write_at-2-clause-any_moment g c gate rest h closed =
    let disk = g.D.Disk in
    let d0 = c.args.disk.now in
    let d1 = c.write_at.new.self in
    let number = c.to_be_bytes.result in
    let kept0 = gate_kept (disk.state d0) gate rest h in
    let first = write_shut disk gate closed d0 d1 1 number c.write_at.result (omega arith) kept0 c.write_at.ensures.ok c.write_at.ensures.err c.write_at.ensures.clock c.write_at.ensures.kept in
    let d2 = c.write_at-2.new.self in
    let kept1 = written_kept (disk.state d0) (disk.state d1) gate 1 number (omega arith) kept0 c.in_ok-write_at.ensures.ok in
    let second = joined disk d0 d1 d2 IsClosed first (write_shut disk gate closed d1 d2 9 c.args.body.now c.write_at-2.result (omega arith) kept1 c.write_at-2.ensures.ok c.write_at-2.ensures.err c.write_at-2.ensures.clock c.write_at-2.ensures.kept) in
    second

pub returns-in_err-cut-clause-any_moment : goal.returns-in_err-cut-clause-any_moment
returns-in_err-cut-clause-any_moment g c gate rest h closed =
    let disk = g.D.Disk in
    let d0 = c.args.disk.now in
    let d1 = c.write_at.new.self in
    let number = c.to_be_bytes.result in
    let kept0 = gate_kept (disk.state d0) gate rest h in
    let first = write_shut disk gate closed d0 d1 1 number c.write_at.result (omega arith) kept0 c.write_at.ensures.ok c.write_at.ensures.err c.write_at.ensures.clock c.write_at.ensures.kept in
    let d2 = c.write_at-2.new.self in
    let kept1 = written_kept (disk.state d0) (disk.state d1) gate 1 number (omega arith) kept0 c.in_ok-write_at.ensures.ok in
    let second = joined disk d0 d1 d2 IsClosed first (write_shut disk gate closed d1 d2 9 c.args.body.now c.write_at-2.result (omega arith) kept1 c.write_at-2.ensures.ok c.write_at-2.ensures.err c.write_at-2.ensures.clock c.write_at-2.ensures.kept) in
    let d3 = c.cut.new.self in
    let to = 9 + length c.args.body.now in
    let kept2 = written_kept (disk.state d1) (disk.state d2) gate 9 c.args.body.now (omega arith) kept1 c.in_ok-write_at-2.ensures.ok in
    let third = joined disk d0 d2 d3 IsClosed second (cut_shut disk gate closed d2 d3 to c.cut.result (omega arith) kept2 c.cut.ensures.ok c.cut.ensures.err c.cut.ensures.clock c.cut.ensures.kept) in
    third

pub returns-clause-any_moment : goal.returns-clause-any_moment
returns-clause-any_moment g c gate rest h closed =
    let disk = g.D.Disk in
    let d0 = c.args.disk.now in
    let d1 = c.write_at.new.self in
    let number = c.to_be_bytes.result in
    let kept0 = gate_kept (disk.state d0) gate rest h in
    let first = write_shut disk gate closed d0 d1 1 number c.write_at.result (omega arith) kept0 c.write_at.ensures.ok c.write_at.ensures.err c.write_at.ensures.clock c.write_at.ensures.kept in
    let d2 = c.write_at-2.new.self in
    let kept1 = written_kept (disk.state d0) (disk.state d1) gate 1 number (omega arith) kept0 c.in_ok-write_at.ensures.ok in
    let second = joined disk d0 d1 d2 IsClosed first (write_shut disk gate closed d1 d2 9 c.args.body.now c.write_at-2.result (omega arith) kept1 c.write_at-2.ensures.ok c.write_at-2.ensures.err c.write_at-2.ensures.clock c.write_at-2.ensures.kept) in
    let d3 = c.cut.new.self in
    let to = 9 + length c.args.body.now in
    let kept2 = written_kept (disk.state d1) (disk.state d2) gate 9 c.args.body.now (omega arith) kept1 c.in_ok-write_at-2.ensures.ok in
    let third = joined disk d0 d2 d3 IsClosed second (cut_shut disk gate closed d2 d3 to c.cut.result (omega arith) kept2 c.cut.ensures.ok c.cut.ensures.err c.cut.ensures.clock c.cut.ensures.kept) in
    let d4 = c.sync.new.self in
    let kept3 = cut_kept (disk.state d2) (disk.state d3) gate to (omega arith) kept2 c.in_ok-cut.ensures.ok in
    joined disk d0 d3 d4 IsClosed third (sync_shut disk gate closed d3 d4 c.sync.result g.met.D.Disk.has_its_bytes kept3 c.sync.ensures.ok c.sync.ensures.err c.sync.ensures.clock c.sync.ensures.kept)

pub returns-clause-written : goal.returns-clause-written
returns-clause-written g c gate rest h =
    let disk = g.D.Disk in
    on_ok c.sync.result (λ synced.
    body_written (disk.state c.args.disk.now) (disk.state c.write_at.new.self) (disk.state c.write_at-2.new.self) (disk.state c.cut.new.self) (disk.state c.sync.new.self) gate (9 + length c.args.body.now) rest c.args.body.now c.to_be_bytes.result c.to_be_bytes.ensures
    h c.in_ok-write_at.ensures.ok c.in_ok-write_at-2.ensures.ok refl c.in_ok-cut.ensures.ok synced) c.sync.ensures.ok
