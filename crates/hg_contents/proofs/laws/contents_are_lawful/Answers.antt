use Rattle.hg_contents.proofs.lawful.Lawful.{lawful}
use Rattle.hg_contents.proofs.laws.contents_are_lawful.Goals as goal

pub returns : goal.returns
returns c = lawful
