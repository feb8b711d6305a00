use Rattle.hg_images.proofs.Remaining as remaining
use Rattle.hg_images.proofs.laws.remaining_give_the_same.Goals as goal

pub returns : goal.returns
returns c = remaining.remaining
