use Rattle.hg_model.proofs.Reported.{held_rise_lem}
use Rattle.hg_model.proofs.laws.held_locks_rise.Goals as goal

pub returns : goal.returns
returns c = held_rise_lem
