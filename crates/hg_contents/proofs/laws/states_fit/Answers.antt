use Rattle.hg_contents.proofs.lawful.Staying.{fits_a_root}
use Rattle.hg_contents.proofs.laws.states_fit.Goals as goal

pub returns : goal.returns
returns g c = fits_a_root g.W.Words.cell_of
