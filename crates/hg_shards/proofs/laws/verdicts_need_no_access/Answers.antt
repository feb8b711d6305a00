use Rattle.hg_shards.proofs.Verdicts.{same_verdict}
use Rattle.hg_shards.proofs.laws.verdicts_need_no_access.Goals as goal

pub returns : goal.returns
returns c = same_verdict
