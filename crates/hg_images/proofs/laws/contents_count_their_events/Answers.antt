use Rattle.hg_images.proofs.Contents as contents
use Rattle.hg_images.proofs.laws.contents_count_their_events.Goals as goal

pub returns : goal.returns
returns c = contents.count_their_events
