use Rattle.hg_disk.specs.State.{IsImage, after_write}
use Rattle.std.proofs.Common.{◌∷◌, []}
use Rattle.hg_disk.proofs.Moments.{weaker}
use Rattle.hg_gate.specs.Batches.{open_gate}
use Rattle.hg_gate.specs.Gated.{IsClosedOrOpenWith}
use Rattle.hg_gate.proofs.Gates.{shut_or_open}
use Rattle.hg_gate.proofs.gated.Gated.open_gate.Goals as goal

pub returns-in_err-opened-clause-any_moment : goal.returns-in_err-opened-clause-any_moment
returns-in_err-opened-clause-any_moment g c gate body rest h =
    weaker g.D.Disk c.args.self.now.disk c.write_through-opened.new.disk (IsImage (after_write 0 (open_gate ∷ []) (g.D.Disk.state c.args.self.now.disk))) (IsClosedOrOpenWith body) c.write_through-opened.ensures.any_moment (λ image is.
    shut_or_open (g.D.Disk.state c.args.self.now.disk) gate open_gate body rest image h.durable is)

pub returns-clause-any_moment : goal.returns-clause-any_moment
returns-clause-any_moment g c gate body rest h =
    weaker g.D.Disk c.args.self.now.disk c.write_through-opened.new.disk (IsImage (after_write 0 (open_gate ∷ []) (g.D.Disk.state c.args.self.now.disk))) (IsClosedOrOpenWith body) c.write_through-opened.ensures.any_moment (λ image is.
    shut_or_open (g.D.Disk.state c.args.self.now.disk) gate open_gate body rest image h.durable is)
