use Rattle.hg_disk.specs.State.{IsImage, after_write}
use Rattle.std.proofs.Common.{◌∷◌, []}
use Rattle.hg_disk.proofs.Moments.{weaker}
use Rattle.hg_gate.specs.Batches.{closed_gate}
use Rattle.hg_gate.specs.Gated.{IsBehindGate}
use Rattle.hg_gate.proofs.Gates.{behind_gate}
use Rattle.hg_gate.proofs.gated.Gated.close.Goals as goal

pub returns-in_err-closed-clause-any_moment : goal.returns-in_err-closed-clause-any_moment
returns-in_err-closed-clause-any_moment g c gate rest h =
    weaker g.D.Disk c.args.self.now.disk c.write_through-closed.new.disk (IsImage (after_write 0 (closed_gate ∷ []) (g.D.Disk.state c.args.self.now.disk))) (IsBehindGate rest) c.write_through-closed.ensures.any_moment (λ image is.
    behind_gate (g.D.Disk.state c.args.self.now.disk) gate closed_gate rest image h.durable is)

pub returns-clause-any_moment : goal.returns-clause-any_moment
returns-clause-any_moment g c gate rest h =
    weaker g.D.Disk c.args.self.now.disk c.write_through-closed.new.disk (IsImage (after_write 0 (closed_gate ∷ []) (g.D.Disk.state c.args.self.now.disk))) (IsBehindGate rest) c.write_through-closed.ensures.any_moment (λ image is.
    behind_gate (g.D.Disk.state c.args.self.now.disk) gate closed_gate rest image h.durable is)
