use Rattle.hg_shards.proofs.Agreement.{agreement_is_lawful_lem}
use Rattle.hg_shards.proofs.laws.agreement_is_lawful.Goals as goal

pub returns : goal.returns
returns c = agreement_is_lawful_lem
