use Rattle.std.proofs.Common.{◌≡◌, ◌≤◌, ◌+◌, ◌-◌, ap, arith, drop, length, subst, Err, MatchOption, Option, ℕ}
use Rattle.hg_disk.specs.State.{DiskState}
use Rattle.hg_gate.specs.declared.fault.GateFault.TheVariants.{Damaged}
use Rattle.hg_gate.specs.Batches.{FindsBase}
use Rattle.hg_gate.specs.Scan.{IsNoTail}
use Rattle.hg_gate.proofs.Basing.{no_file}
use Rattle.hg_gate.proofs.Walking.{read_again}
use Rattle.hg_gate.proofs.based.find_file.Goals as goal

pub returns-in_err-base-clause-damaged : goal.returns-in_err-base-clause-damaged
returns-in_err-base-clause-damaged g c honest is =
    let same : c.in_err-base.field-0.0 ≡ Damaged = grind arith in c.in_err-base.ensures.damaged honest (λ i. Err (same i))

pub returns-in_err-len-clause-damaged : goal.returns-in_err-len-clause-damaged
returns-in_err-len-clause-damaged g c honest is =
    let file = (g.D.Disk.state c.args.disk.now).contents in
    let same : c.in_err-len.field-0.0 ≡ Damaged = grind arith in
    no_file c.in-Some.base file (subst (FindsBase file) c.in-Some.is (c.in_ok-base.ensures.found (c.find_end.ensures.reads.any_moment.kept honest)))
    (subst (λ (s : DiskState). IsNoTail (drop 17 s.contents)) c.read_front.ensures.reads.state (c.in_err-len.ensures.damaged honest (λ i. Err (same i))))

pub returns-in_err-len-clause-reads : goal.returns-in_err-len-clause-reads
returns-in_err-len-clause-reads g c =
    let file = (g.D.Disk.state c.args.disk.now).contents in
    let size = ap (λ (s : DiskState). length s.contents) c.read_front.ensures.reads.state in
    let long = subst (λ (o : Option ℕ). MatchOption o (Unit {0}) (λ _. 17 ≤ length file)) c.in-Some.is c.in_ok-base.ensures.within in
    read_again g.D.Disk 1 (length (g.D.Disk.state c.read_front.new.disk).contents - 17 + 1) (length file) c.args.disk.now c.read_front.new.disk c.find_end.new.disk
    (omega (arith, size, long)) c.read_front.ensures.reads c.find_end.ensures.reads

pub returns-clause-reads : goal.returns-clause-reads
returns-clause-reads g c =
    let file = (g.D.Disk.state c.args.disk.now).contents in
    let size = ap (λ (s : DiskState). length s.contents) c.read_front.ensures.reads.state in
    let long = subst (λ (o : Option ℕ). MatchOption o (Unit {0}) (λ _. 17 ≤ length file)) c.in-Some.is c.in_ok-base.ensures.within in
    read_again g.D.Disk 1 (length (g.D.Disk.state c.read_front.new.disk).contents - 17 + 1) (length file) c.args.disk.now c.read_front.new.disk c.find_end.new.disk
    (omega (arith, size, long)) c.read_front.ensures.reads c.find_end.ensures.reads
