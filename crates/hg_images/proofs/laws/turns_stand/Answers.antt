use Rattle.hg_images.proofs.Stepping as stepping
use Rattle.hg_images.proofs.laws.turns_stand.Goals as goal

pub returns : goal.returns
returns c = stepping.turns
