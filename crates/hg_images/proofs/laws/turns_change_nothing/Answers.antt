use Rattle.hg_images.proofs.Contents as contents
use Rattle.hg_images.proofs.laws.turns_change_nothing.Goals as goal

pub returns : goal.returns
returns c = contents.turned
