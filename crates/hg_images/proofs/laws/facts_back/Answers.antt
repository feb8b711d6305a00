use Rattle.hg_images.proofs.Joining as joining
use Rattle.hg_images.proofs.laws.facts_back.Goals as goal

pub returns : goal.returns
returns c = joining.facts_back
