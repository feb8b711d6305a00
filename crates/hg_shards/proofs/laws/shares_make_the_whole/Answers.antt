use Rattle.hg_shards.proofs.Parts.{shares_make_the_whole_lem}
use Rattle.hg_shards.proofs.laws.shares_make_the_whole.Goals as goal

pub returns : goal.returns
returns c = shares_make_the_whole_lem
