use Rattle.hg_pool.proofs.Given as given
use Rattle.hg_pool.proofs.laws.root_stays.Goals as goal

pub returns : goal.returns
returns g c = given.root_stays g.D.Disk g.met.D.Disk.has_its_bytes
