use Rattle.hg_shards.proofs.Tables.{tables_answer_lem}
use Rattle.hg_shards.proofs.laws.tables_answer_by_sets.Goals as goal

pub returns : goal.returns
returns c = tables_answer_lem
