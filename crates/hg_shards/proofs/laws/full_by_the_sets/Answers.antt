use Rattle.hg_shards.proofs.Asking.{full_lem}
use Rattle.hg_shards.proofs.laws.full_by_the_sets.Goals as goal

pub returns : goal.returns
returns c = full_lem
