use Rattle.hg_shards.proofs.Asking.{sets_are_lem}
use Rattle.hg_shards.proofs.laws.sets_are_of_the_words.Goals as goal

pub returns : goal.returns
returns c = sets_are_lem
