use Rattle.hg_images.proofs.Remaining as remaining
use Rattle.hg_images.proofs.laws.prefix_is_summed.Goals as goal

pub returns : goal.returns
returns c = remaining.summed c.following_is_the_summary.ensures
