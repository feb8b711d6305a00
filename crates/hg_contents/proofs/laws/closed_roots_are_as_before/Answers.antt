use Rattle.hg_contents.proofs.Closed.{closed}
use Rattle.hg_contents.proofs.laws.closed_roots_are_as_before.Goals as goal

pub returns : goal.returns
returns c = closed
