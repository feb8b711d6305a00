use Rattle.hg_checkpoint.proofs.Staying as staying
use Rattle.hg_checkpoint.proofs.laws.frozen_slots_stay.Goals as goal

pub returns : goal.returns
returns g c = staying.frozen_slots_stay g.D.Disk g.met.D.Disk.has_its_bytes
