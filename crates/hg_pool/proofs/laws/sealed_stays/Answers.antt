use Rattle.hg_pool.proofs.Given as given
use Rattle.hg_pool.proofs.laws.sealed_stays.Goals as goal

pub returns : goal.returns
returns g c = given.sealed_stays g.D.Disk g.met.D.Disk.has_its_bytes
