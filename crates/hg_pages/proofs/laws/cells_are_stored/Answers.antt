use Rattle.hg_pages.proofs.Decoding.{stored}
use Rattle.hg_pages.proofs.laws.cells_are_stored.Goals as goal

pub returns : goal.returns
returns c = stored
