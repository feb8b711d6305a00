use Rattle.std.proofs.Common.{◌≡◌, ◌+◌, ◌-◌, ap, drop, length, subst, sym, Err, arith}
use Rattle.hg_disk.specs.State.{DiskState}
use Rattle.hg_gate.specs.declared.fault.GateFault.TheVariants.{Damaged}
use Rattle.hg_gate.specs.Batches.{header}
use Rattle.hg_gate.specs.Scan.{EndsAt, IsTail}
use Rattle.hg_gate.proofs.Reading.{behind, ends_behind, if_ok}
use Rattle.hg_gate.proofs.Walking.{read_again}
use Rattle.hg_gate.proofs.scan.find_log.Goals as goal

pub returns-in_err-read_header-clause-damaged : goal.returns-in_err-read_header-clause-damaged
returns-in_err-read_header-clause-damaged g c honest is =
    let same : c.in_err-read_header.field-0.0 ≡ Damaged = grind arith in c.in_err-read_header.ensures.damaged honest (λ i. Err (same i))

pub returns-clause-damaged : goal.returns-clause-damaged
returns-clause-damaged g c honest is bodies has =
    c.find_end.ensures.damaged honest is bodies
    (subst (λ (s : DiskState). IsTail (drop 8 s.contents) bodies) (sym c.read_header.ensures.reads.state) (behind header (g.D.Disk.state c.args.disk.now).contents bodies has))

pub returns-clause-found : goal.returns-clause-found
returns-clause-found g c honest =
    let file = (g.D.Disk.state c.args.disk.now).contents in
    if_ok c.find_end.result (λ len found. ends_behind header file 8 len (c.in_ok-read_header.ensures.found (c.find_end.ensures.reads.any_moment.kept honest))
    (subst (λ (s : DiskState). EndsAt (drop 8 s.contents) len) c.read_header.ensures.reads.state found)) (c.find_end.ensures.found honest)

pub returns-clause-one_a_batch : goal.returns-clause-one_a_batch
returns-clause-one_a_batch g c honest bodies has =
    let one = c.read_header.ensures.reads.calls in
    let more = c.find_end.ensures.one_a_batch honest bodies
    (subst (λ (s : DiskState). IsTail (drop 8 s.contents) bodies) (sym c.read_header.ensures.reads.state) (behind header (g.D.Disk.state c.args.disk.now).contents bodies has)) in
    omega (arith, one, more)

pub returns-clause-reads : goal.returns-clause-reads
returns-clause-reads g c =
    let file = (g.D.Disk.state c.args.disk.now).contents in
    let size = ap (λ (s : DiskState). length s.contents) c.read_header.ensures.reads.state in
    read_again g.D.Disk 1 (length (g.D.Disk.state c.read_header.new.disk).contents - 8 + 1) (length file) c.args.disk.now c.read_header.new.disk c.find_end.new.disk
    (omega (arith, size, c.in_ok-read_header.ensures.within)) c.read_header.ensures.reads c.find_end.ensures.reads
