use Rattle.std.proofs.Common.{◌≡◌, ◌≤◌, ◌<◌, ◌^◌, ◌+◌, ◌∙◌, ℕ, List, Err, get_or, take, drop, length, sym, ap, subst, arith}
use Rattle.hg_disk.specs.State.{DiskState}
use Rattle.hg_gate.specs.declared.fault.GateFault.TheVariants.{Damaged}
use Rattle.hg_gate.specs.Batches.{open_gate}
use Rattle.hg_gate.specs.Gated.{HasFront, HasLength, IsOpenWith}
use Rattle.hg_gate.proofs.Opening.{front_is, open_with, not_closed, whole_front}
use Rattle.hg_gate.proofs.Walking.{at_most, read_again}
use Rattle.hg_gate.proofs.gated.Gated.read_wanted.Goals as goal

pub returns-in_err-len-clause-damaged : goal.returns-in_err-len-clause-damaged
returns-in_err-len-clause-damaged g c honest is =
    let file = (g.D.Disk.state c.args.self.now.disk).contents in
    let same : c.in_err-len.field-0.0 ≡ Damaged = grind arith in
    let gate : get_or file 0 0 ≡ open_gate = (c.in_ok-is_open.ensures.open (c.read_head.ensures.reads.any_moment.kept honest)).0 c.if-not-branch.false in (
      not_closed file gate,
      λ body opened wanted. c.in_err-len.ensures.damaged honest (λ i. Err (same i)) body (subst (λ (s : DiskState). IsOpenWith body s.contents) (sym c.is_open.ensures.reads.state) opened),
    )

pub returns-then-not-may_want-clause-damaged : goal.returns-then-not-may_want-clause-damaged
returns-then-not-may_want-clause-damaged g c honest is =
    let file = (g.D.Disk.state c.args.self.now.disk).contents in
    let n = c.in_ok-len.len in
    let gate : get_or file 0 0 ≡ open_gate = (c.in_ok-is_open.ensures.open (c.read_head.ensures.reads.any_moment.kept honest)).0 c.if-not-branch.false in
    let bytes : (g.D.Disk.state c.is_open.new.disk).contents ≡ file = ap (λ (s : DiskState). s.contents) c.is_open.ensures.reads.state in
    let within : 9 + n ≤ length file = omega (arith, c.in_ok-len.ensures.within, ap length bytes) in
    let small : length file < 2 ^ 64 = let fits = c.in_ok-is_open.ensures.fits in omega (arith, fits) in
    let number : HasLength file n = subst (λ (l : List ℕ). HasLength l n) bytes (c.in_ok-len.ensures.bytes honest) in
    let front : HasFront file c.read_head.new.head n = subst (λ (l : List ℕ). HasFront l c.read_head.new.head n) bytes (c.in_ok-len.ensures.front honest) in (
      not_closed file gate,
      λ body opened. let its = front_is file c.read_head.new.head body n small within gate number front opened in
          c.may_want.ensures c.if-not-may_want.true body its.0 (λ more. whole_front c.read_head.new.head c.in_ok-len.ensures.size ∙ its.1 more),
    )

pub returns-then-not-may_want-clause-reads : goal.returns-then-not-may_want-clause-reads
returns-then-not-may_want-clause-reads g c = read_again g.D.Disk 1 1 3 c.args.self.now.disk c.is_open.new.disk c.read_head.new.disk (omega arith) c.is_open.ensures.reads c.read_head.ensures.reads

pub returns-clause-read : goal.returns-clause-read
returns-clause-read g c honest =
    let file = (g.D.Disk.state c.args.self.now.disk).contents in
    let n = c.in_ok-len.len in
    let gate : get_or file 0 0 ≡ open_gate = (c.in_ok-is_open.ensures.open (c.read_head.ensures.reads.any_moment.kept (c.read_vec.ensures.reads.any_moment.kept honest))).0 c.if-not-branch.false in
    let bytes : (g.D.Disk.state c.is_open.new.disk).contents ≡ file = ap (λ (s : DiskState). s.contents) c.is_open.ensures.reads.state in
    let later : (g.D.Disk.state c.read_head.new.disk).contents ≡ file = ap (λ (s : DiskState). s.contents) (c.read_head.ensures.reads.state ∙ c.is_open.ensures.reads.state) in
    let within : 9 + n ≤ length file = omega (arith, c.in_ok-len.ensures.within, ap length bytes) in
    open_with file c.in_ok-body.body.items n within gate (ap (λ (l : List ℕ). take 8 (drop 1 l)) (sym bytes) ∙ c.in_ok-len.ensures.bytes (c.read_vec.ensures.reads.any_moment.kept honest))
    (c.in_ok-body.ensures.bytes honest ∙ ap (λ (l : List ℕ). take n (drop 9 l)) later)

pub returns-in_err-is_open-clause-reads : goal.returns-in_err-is_open-clause-reads
returns-in_err-is_open-clause-reads g c = at_most g.D.Disk 1 3 c.args.self.now.disk c.is_open.new.disk (omega arith) c.is_open.ensures.reads

pub returns-in_err-len-clause-reads : goal.returns-in_err-len-clause-reads
returns-in_err-len-clause-reads g c = read_again g.D.Disk 1 1 3 c.args.self.now.disk c.is_open.new.disk c.read_head.new.disk (omega arith) c.is_open.ensures.reads c.read_head.ensures.reads

pub returns-in_err-body-clause-reads : goal.returns-in_err-body-clause-reads
returns-in_err-body-clause-reads g c =
    read_again g.D.Disk 2 1 3 c.args.self.now.disk c.read_head.new.disk c.read_vec.new.disk (omega arith)
    (read_again g.D.Disk 1 1 2 c.args.self.now.disk c.is_open.new.disk c.read_head.new.disk (omega arith) c.is_open.ensures.reads c.read_head.ensures.reads) c.read_vec.ensures.reads

pub returns-clause-reads : goal.returns-clause-reads
returns-clause-reads g c =
    read_again g.D.Disk 2 1 3 c.args.self.now.disk c.read_head.new.disk c.read_vec.new.disk (omega arith)
    (read_again g.D.Disk 1 1 2 c.args.self.now.disk c.is_open.new.disk c.read_head.new.disk (omega arith) c.is_open.ensures.reads c.read_head.ensures.reads) c.read_vec.ensures.reads
