use Rattle.hg_images.proofs.Joining as joining
use Rattle.hg_images.proofs.laws.joint_images.Goals as goal

pub returns : goal.returns
returns c = joining.joint_images
