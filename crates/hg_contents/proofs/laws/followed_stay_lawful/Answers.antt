use Rattle.hg_contents.proofs.lawful.Staying.{followed_stay}
use Rattle.hg_contents.proofs.laws.followed_stay_lawful.Goals as goal

pub returns : goal.returns
returns c = followed_stay
