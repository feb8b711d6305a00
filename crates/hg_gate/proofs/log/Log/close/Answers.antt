use Rattle.std.proofs.Common.{◌∷◌, []}
use Rattle.hg_disk.specs.State.{IsImage, after_write}
use Rattle.hg_disk.proofs.Moments.{weaker}
use Rattle.hg_gate.specs.Batches.{IsSpareOrHas, closed_gate}
use Rattle.hg_gate.proofs.Basing.{close_image}
use Rattle.hg_gate.proofs.log.Log.close.Goals as goal

pub returns-in_err-closed-clause-any_moment : goal.returns-in_err-closed-clause-any_moment
returns-in_err-closed-clause-any_moment g c base bodies h =
    let s = g.D.Disk.state c.args.self.now.disk in
    weaker g.D.Disk c.args.self.now.disk c.write_through-closed.new.disk (IsImage (after_write 0 (closed_gate ∷ []) s)) (IsSpareOrHas base bodies) c.write_through-closed.ensures.any_moment (λ image is.
    close_image base bodies s.contents s image h.reads.has h.durable is)

pub returns-clause-any_moment : goal.returns-clause-any_moment
returns-clause-any_moment g c base bodies h =
    let s = g.D.Disk.state c.args.self.now.disk in
    weaker g.D.Disk c.args.self.now.disk c.write_through-closed.new.disk (IsImage (after_write 0 (closed_gate ∷ []) s)) (IsSpareOrHas base bodies) c.write_through-closed.ensures.any_moment (λ image is.
    close_image base bodies s.contents s image h.reads.has h.durable is)
