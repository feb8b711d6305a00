use Rattle.hg_contents.specs.Images.{content_of, start_of}
use Rattle.hg_images.proofs.Following.{same_from}
use Rattle.hg_images.proofs.laws.checkpoint_gives_the_same.Goals as goal

pub returns : goal.returns
returns c former next base events more content is = same_from (start_of former) (content_of next) base events is more content
