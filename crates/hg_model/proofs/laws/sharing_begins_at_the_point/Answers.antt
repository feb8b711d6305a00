use Rattle.hg_model.proofs.PlainWords.{sharing_begins_at_the_point_lem}
use Rattle.hg_model.proofs.laws.sharing_begins_at_the_point.Goals as goal

pub returns : goal.returns
returns c = sharing_begins_at_the_point_lem
