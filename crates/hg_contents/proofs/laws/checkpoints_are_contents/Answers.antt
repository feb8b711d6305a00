use Rattle.hg_contents.proofs.Maps.{contents}
use Rattle.hg_contents.proofs.laws.checkpoints_are_contents.Goals as goal

pub returns : goal.returns
returns c = contents
