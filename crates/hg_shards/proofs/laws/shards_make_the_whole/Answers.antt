use Rattle.hg_shards.proofs.Summaries.{shards_make_the_whole_lem}
use Rattle.hg_shards.proofs.laws.shards_make_the_whole.Goals as goal

pub returns : goal.returns
returns c = shards_make_the_whole_lem
