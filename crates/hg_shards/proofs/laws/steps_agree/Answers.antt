use Rattle.hg_shards.proofs.Steps.{steps_agree_lem}
use Rattle.hg_shards.proofs.laws.steps_agree.Goals as goal

pub returns : goal.returns
returns c = steps_agree_lem
