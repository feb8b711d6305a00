use Rattle.hg_images.proofs.Losing as losing
use Rattle.hg_images.proofs.laws.giving_up_too_early_loses_content.Goals as goal

pub returns : goal.returns
returns c = losing.loses
