use Rattle.hg_images.proofs.Stepping as stepping
use Rattle.hg_images.proofs.laws.contents_have_a_basis.Goals as goal

pub returns : goal.returns
returns c = stepping.bases
