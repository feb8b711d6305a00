use Rattle.std.proofs.Common.{◌≡◌, ◌∙◌, ◌∷◌, ◌++◌, ℕ, List, ap, arith}
use Rattle.hg_disk.specs.State.{DiskState, overwritten, settled}
use Rattle.hg_disk.proofs.Moments.{joined}
use Rattle.hg_gate.specs.Batches.{IsClosed, closed_gate}
use Rattle.hg_gate.proofs.Basing.{put}
use Rattle.hg_gate.proofs.Gates.{gate_kept, on_ok, sync_shut, write_shut, written_kept}
use Rattle.hg_migration.specs.Building.{zero_front}
use Rattle.hg_migration.proofs.Built.{copy_of}
use Rattle.hg_migration.proofs.building.fill.Goals as goal

pub returns-in_err-write_at-clause-any_moment : goal.returns-in_err-write_at-clause-any_moment
returns-in_err-write_at-clause-any_moment g c gate rest h closed =
    write_shut g.D.Disk gate closed c.args.file.now c.write_at.new.self 1 zero_front c.write_at.result (omega arith) (gate_kept (g.D.Disk.state c.args.file.now) gate rest h) c.write_at.ensures.ok c.write_at.ensures.err c.write_at.ensures.clock c.write_at.ensures.kept

pub returns-in_err-append_rest-clause-any_moment : goal.returns-in_err-append_rest-clause-any_moment
returns-in_err-append_rest-clause-any_moment g c gate rest h closed =
    let disk = g.D.Disk in
    let d0 = c.args.file.now in
    let d1 = c.write_at.new.self in
    let kept0 = gate_kept (disk.state d0) gate rest h in
    let first = write_shut disk gate closed d0 d1 1 zero_front c.write_at.result (omega arith) kept0 c.write_at.ensures.ok c.write_at.ensures.err c.write_at.ensures.clock c.write_at.ensures.kept in
    let kept1 = written_kept (disk.state d0) (disk.state d1) gate 1 zero_front (omega arith) kept0 c.in_ok-write_at.ensures.ok in
    joined disk d0 d1 c.append_rest.new.to IsClosed first (c.append_rest.ensures.any_moment gate closed kept1)

pub returns-clause-any_moment : goal.returns-clause-any_moment
returns-clause-any_moment g c gate rest h closed =
    let disk = g.D.Disk in
    let d0 = c.args.file.now in
    let d1 = c.write_at.new.self in
    let d2 = c.append_rest.new.to in
    let d3 = c.sync.new.self in
    let kept0 = gate_kept (disk.state d0) gate rest h in
    let first = write_shut disk gate closed d0 d1 1 zero_front c.write_at.result (omega arith) kept0 c.write_at.ensures.ok c.write_at.ensures.err c.write_at.ensures.clock c.write_at.ensures.kept in
    let kept1 = written_kept (disk.state d0) (disk.state d1) gate 1 zero_front (omega arith) kept0 c.in_ok-write_at.ensures.ok in
    let second = joined disk d0 d1 d2 IsClosed first (c.append_rest.ensures.any_moment gate closed kept1) in
    let kept2 = c.in_ok-append_rest.ensures.gate gate kept1 in
    joined disk d0 d2 d3 IsClosed second (sync_shut disk gate closed d2 d3 c.sync.result g.met.D.Disk.has_its_bytes kept2 c.sync.ensures.ok c.sync.ensures.err c.sync.ensures.clock c.sync.ensures.kept)

pub returns-clause-filled : goal.returns-clause-filled
returns-clause-filled g c =
    let disk = g.D.Disk in
    let old = (disk.state c.args.journal.now).contents in
    let more = c.in_ok-append_rest.ensures.appended in
    on_ok c.sync.result (λ synced h.
    let one : (disk.state c.write_at.new.self).contents ≡ closed_gate ∷ zero_front =
    ap (λ (s : DiskState). s.contents) c.in_ok-write_at.ensures.ok ∙ ap (λ (s : DiskState). overwritten s.contents 1 zero_front) h ∙ put closed_gate zero_front in
    (more.0, copy_of disk old more.0 c.requires.header more.1, synced ∙ ap settled (more.2 ∙ ap (λ (l : List ℕ). l ++ more.0) one))) c.sync.ensures.ok
