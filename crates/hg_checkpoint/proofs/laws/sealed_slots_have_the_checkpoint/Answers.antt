use Rattle.hg_checkpoint.proofs.Staying as staying
use Rattle.hg_checkpoint.proofs.laws.sealed_slots_have_the_checkpoint.Goals as goal

pub returns : goal.returns
returns g c = staying.sealed_slots g.D.Disk
