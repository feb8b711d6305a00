use Rattle.hg_images.proofs.Contents as contents
use Rattle.hg_images.proofs.laws.content_is_unique.Goals as goal

pub returns : goal.returns
returns c = contents.content_is_unique
