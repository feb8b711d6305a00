use Rattle.hg_model.proofs.Graph.{reaches_is_path}
use Rattle.hg_model.proofs.laws.reaching_is_a_path_anywhere.Goals as goal

pub returns : goal.returns
returns c = λ segments rising s g. reaches_is_path segments rising s g
