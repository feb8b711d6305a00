use Rattle.hg_contents.proofs.lawful.Staying.{one_stays}
use Rattle.hg_contents.proofs.laws.states_stay_lawful.Goals as goal

pub returns : goal.returns
returns c = one_stays
