use Rattle.hg_root.proofs.Joining.{joined}
use Rattle.hg_root.proofs.laws.joint_images.Goals as goal

pub returns : goal.returns
returns g c = joined g.D.Disk g.E.Disk
