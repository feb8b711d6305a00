use Rattle.hg_contents.proofs.Remaining.{summed}
use Rattle.hg_contents.proofs.laws.prefix_is_summed.Goals as goal

pub returns : goal.returns
returns c = summed c.following_is_the_summary.ensures
