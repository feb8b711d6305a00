use Rattle.std.proofs.Common.{◌∙◌, ap, length, arith}
use Rattle.hg_disk.proofs.Moments.{read_leaves}
use Rattle.hg_disk.specs.State.{DiskState}
use Rattle.hg_gate.proofs.Gates.{on_ok}
use Rattle.hg_migration.proofs.Copied.{appended, closed_now, write_closed, write_keeps}
use Rattle.hg_migration.proofs.copying.append_piece.Goals as goal

pub returns-in_err-read_at-clause-any_moment : goal.returns-in_err-read_at-clause-any_moment
returns-in_err-read_at-clause-any_moment g c = closed_now g.D.Disk c.args.to.now

pub returns-clause-any_moment : goal.returns-clause-any_moment
returns-clause-any_moment g c =
    write_closed g.D.Disk c.args.to.now c.write_at.new.self c.len.result c.read_at.new.buf c.write_at.result c.len.ensures.value c.write_at.ensures.ok c.write_at.ensures.err c.write_at.ensures.clock c.write_at.ensures.kept

pub returns-clause-gate : goal.returns-clause-gate
returns-clause-gate g c = on_ok c.write_at.result (λ written. write_keeps g.D.Disk c.args.to.now c.write_at.new.self c.len.result c.read_at.new.buf c.len.ensures.value written) c.write_at.ensures.ok

pub returns-in_err-read_at-clause-read : goal.returns-in_err-read_at-clause-read
returns-in_err-read_at-clause-read g c = record {
  state = c.read_at.ensures.state;
  any_moment = read_leaves g.D.Disk c.args.from.now c.read_at.new.self c.read_at.ensures.state c.read_at.ensures.clock c.read_at.ensures.kept;
  calls = omega (arith, ap length c.read_at.ensures.clock);
}

pub returns-clause-read : goal.returns-clause-read
returns-clause-read g c = record {
  state = c.read_at.ensures.state;
  any_moment = read_leaves g.D.Disk c.args.from.now c.read_at.new.self c.read_at.ensures.state c.read_at.ensures.clock c.read_at.ensures.kept;
  calls = omega (arith, ap length c.read_at.ensures.clock);
}

pub returns-clause-appended : goal.returns-clause-appended
returns-clause-appended g c =
    on_ok c.write_at.result (λ written. (
      c.read_at.new.buf,
      record { size = c.read_at.auto.buf; same = λ honest. c.in_ok-read_at.ensures.bytes (g.met.D.Disk.honest_reads honest c.read_at.new.self) },
      ap (λ (s : DiskState). s.contents) written ∙ appended (g.D.Disk.state c.args.to.now).contents c.read_at.new.buf c.len.result c.len.ensures.value,
    )) c.write_at.ensures.ok
