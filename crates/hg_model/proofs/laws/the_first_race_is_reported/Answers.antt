use Rattle.hg_model.proofs.Reported.{first_race_is_reported_lem}
use Rattle.hg_model.proofs.laws.the_first_race_is_reported.Goals as goal

pub returns : goal.returns
returns c = first_race_is_reported_lem
