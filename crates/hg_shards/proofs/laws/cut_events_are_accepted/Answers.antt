use Rattle.hg_shards.proofs.Cuts.{cut_events_lem}
use Rattle.hg_shards.proofs.laws.cut_events_are_accepted.Goals as goal

pub returns : goal.returns
returns c = cut_events_lem
