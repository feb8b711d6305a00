use Rattle.hg_model.proofs.PlainWords.{edges_lead_forward_lem}
use Rattle.hg_model.proofs.laws.edges_lead_forward.Goals as goal

pub returns : goal.returns
returns c = edges_lead_forward_lem
