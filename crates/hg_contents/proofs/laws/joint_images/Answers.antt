use Rattle.hg_contents.proofs.Joining as joining
use Rattle.hg_contents.proofs.laws.joint_images.Goals as goal

pub returns : goal.returns
returns c = joining.joint_images
