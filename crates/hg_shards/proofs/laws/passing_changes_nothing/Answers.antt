use Rattle.hg_shards.proofs.Steps.{passing_lem}
use Rattle.hg_shards.proofs.laws.passing_changes_nothing.Goals as goal

pub returns : goal.returns
returns c = passing_lem
