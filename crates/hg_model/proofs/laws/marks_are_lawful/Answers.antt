use Rattle.hg_model.proofs.Marking.{marks_lawful}
use Rattle.hg_model.proofs.laws.marks_are_lawful.Goals as goal

pub returns : goal.returns
returns c = marks_lawful
