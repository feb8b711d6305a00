use Rattle.hg_gate.proofs.Opening as opening
use Rattle.hg_gate.proofs.laws.one_body.Goals as goal

pub returns : goal.returns
returns c = opening.one_body
