use Rattle.hg_images.proofs.Contents as contents
use Rattle.hg_images.proofs.laws.bases_above_the_root_have_no_content.Goals as goal

pub returns : goal.returns
returns c = contents.none_above
