use Rattle.hg_root.proofs.Choosing as choosing
use Rattle.hg_root.proofs.laws.one_newest.Goals as goal

pub returns : goal.returns
returns c = choosing.one_newest
