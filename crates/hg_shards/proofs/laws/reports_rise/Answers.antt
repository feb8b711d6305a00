use Rattle.hg_shards.proofs.Rising.{rise_lem}
use Rattle.hg_shards.proofs.laws.reports_rise.Goals as goal

pub returns : goal.returns
returns c = rise_lem
