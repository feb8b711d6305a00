use Rattle.hg_shards.proofs.Asking.{parts_ask}
use Rattle.hg_shards.proofs.laws.parts_ask_for_the_sets.Goals as goal

pub returns : goal.returns
returns c = parts_ask
