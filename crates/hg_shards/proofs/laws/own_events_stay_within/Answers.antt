use Rattle.hg_shards.proofs.Steps.{own_events_lem}
use Rattle.hg_shards.proofs.laws.own_events_stay_within.Goals as goal

pub returns : goal.returns
returns c = own_events_lem
