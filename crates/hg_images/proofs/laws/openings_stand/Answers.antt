use Rattle.hg_images.proofs.Stepping as stepping
use Rattle.hg_images.proofs.laws.openings_stand.Goals as goal

pub returns : goal.returns
returns c = stepping.openings
