use Rattle.std.proofs.Common.{refl, subst, sym}
use Rattle.hg_disk.specs.State.{DiskState, IsImage}
use Rattle.hg_gate.specs.Batches.{IsClosed}
use Rattle.hg_gate.proofs.laws.each_image_is_spare.Goals as goal

pub returns : goal.returns
returns g c = λ h image is.
    let only = subst (λ (t : DiskState). IsImage t image) h.durable is in
    subst IsClosed (sym (only.clean refl)) h.reads.closed
