use Rattle.hg_shards.proofs.Asking.{same_asked}
use Rattle.hg_shards.proofs.laws.other_words_ask_for_other_sets.Goals as goal

pub returns : goal.returns
returns c = same_asked
