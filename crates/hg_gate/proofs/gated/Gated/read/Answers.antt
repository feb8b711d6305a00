use Rattle.std.proofs.Common.{◌≡◌, ◌≤◌, ◌+◌, ◌∙◌, ℕ, List, Err, get_or, take, drop, length, sym, ap, subst, ⊎_elim, arith}
use Rattle.hg_disk.specs.State.{DiskState}
use Rattle.hg_gate.specs.declared.fault.GateFault.TheVariants.{Damaged}
use Rattle.hg_gate.specs.Batches.{open_gate}
use Rattle.hg_gate.specs.Gated.{IsOpenWith}
use Rattle.hg_gate.proofs.Opening.{open_with, not_closed}
use Rattle.hg_gate.proofs.Walking.{at_most, read_again}
use Rattle.hg_gate.proofs.gated.Gated.read.Goals as goal

pub returns-in_err-len-clause-damaged : goal.returns-in_err-len-clause-damaged
returns-in_err-len-clause-damaged g c honest is body =
    let file = (g.D.Disk.state c.args.self.now.disk).contents in
    let same : c.in_err-len.field-0.0 ≡ Damaged = grind arith in
    let gate : get_or file 0 0 ≡ open_gate = (c.in_ok-is_open.ensures.open (c.read_length.ensures.reads.any_moment.kept honest)).0 c.if-not-branch.false in
    ⊎_elim (λ closed. not_closed file gate closed) (λ opened.
    c.in_err-len.ensures.damaged honest (λ i. Err (same i)) body (subst (λ (s : DiskState). IsOpenWith body s.contents) (sym c.is_open.ensures.reads.state) opened))

pub returns-clause-read : goal.returns-clause-read
returns-clause-read g c honest =
    let file = (g.D.Disk.state c.args.self.now.disk).contents in
    let n = c.in_ok-len.len in
    let gate : get_or file 0 0 ≡ open_gate = (c.in_ok-is_open.ensures.open (c.read_length.ensures.reads.any_moment.kept (c.read_vec.ensures.reads.any_moment.kept honest))).0 c.if-not-branch.false in
    let bytes : (g.D.Disk.state c.is_open.new.disk).contents ≡ file = ap (λ (s : DiskState). s.contents) c.is_open.ensures.reads.state in
    let later : (g.D.Disk.state c.read_length.new.disk).contents ≡ file = ap (λ (s : DiskState). s.contents) (c.read_length.ensures.reads.state ∙ c.is_open.ensures.reads.state) in
    let within : 9 + n ≤ length file = omega (arith, c.in_ok-len.ensures.within, ap length bytes) in
    open_with file c.in_ok-body.body.items n within gate (ap (λ (l : List ℕ). take 8 (drop 1 l)) (sym bytes) ∙ c.in_ok-len.ensures.bytes (c.read_vec.ensures.reads.any_moment.kept honest))
    (c.in_ok-body.ensures.bytes honest ∙ ap (λ (l : List ℕ). take n (drop 9 l)) later)

pub returns-in_err-is_open-clause-reads : goal.returns-in_err-is_open-clause-reads
returns-in_err-is_open-clause-reads g c = at_most g.D.Disk 1 3 c.args.self.now.disk c.is_open.new.disk (omega arith) c.is_open.ensures.reads

pub returns-in_err-len-clause-reads : goal.returns-in_err-len-clause-reads
returns-in_err-len-clause-reads g c = read_again g.D.Disk 1 1 3 c.args.self.now.disk c.is_open.new.disk c.read_length.new.disk (omega arith) c.is_open.ensures.reads c.read_length.ensures.reads

pub returns-in_err-body-clause-reads : goal.returns-in_err-body-clause-reads
returns-in_err-body-clause-reads g c =
    read_again g.D.Disk 2 1 3 c.args.self.now.disk c.read_length.new.disk c.read_vec.new.disk (omega arith)
    (read_again g.D.Disk 1 1 2 c.args.self.now.disk c.is_open.new.disk c.read_length.new.disk (omega arith) c.is_open.ensures.reads c.read_length.ensures.reads) c.read_vec.ensures.reads

pub returns-clause-reads : goal.returns-clause-reads
returns-clause-reads g c =
    read_again g.D.Disk 2 1 3 c.args.self.now.disk c.read_length.new.disk c.read_vec.new.disk (omega arith)
    (read_again g.D.Disk 1 1 2 c.args.self.now.disk c.is_open.new.disk c.read_length.new.disk (omega arith) c.is_open.ensures.reads c.read_length.ensures.reads) c.read_vec.ensures.reads
