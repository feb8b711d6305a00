use Rattle.hg_shards.proofs.Verdicts.{same_summary}
use Rattle.hg_shards.proofs.laws.summaries_agree.Goals as goal

pub returns : goal.returns
returns c = same_summary
