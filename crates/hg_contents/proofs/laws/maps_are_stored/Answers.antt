use Rattle.hg_contents.proofs.Maps.{stored}
use Rattle.hg_contents.proofs.laws.maps_are_stored.Goals as goal

pub returns : goal.returns
returns c = stored
