use Rattle.hg_root.proofs.Bodies.{one_reading}
use Rattle.hg_root.proofs.laws.bodies_have_one_reading.Goals as goal

pub returns : goal.returns
returns c = one_reading
