use Rattle.hg_contents.proofs.lawful.Roots.{root_state}
use Rattle.hg_contents.proofs.laws.roots_have_lawful_states.Goals as goal

pub returns : goal.returns
returns c = root_state
