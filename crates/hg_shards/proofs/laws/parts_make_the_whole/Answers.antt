use Rattle.hg_shards.proofs.Parts.{parts_make_the_whole_lem}
use Rattle.hg_shards.proofs.laws.parts_make_the_whole.Goals as goal

pub returns : goal.returns
returns c = parts_make_the_whole_lem
