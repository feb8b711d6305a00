use Rattle.hg_contents.proofs.lawful.Staying as staying
use Rattle.hg_contents.proofs.laws.empty_is_lawful.Goals as goal

pub returns : goal.returns
returns c = staying.first
