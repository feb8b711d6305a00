use Rattle.hg_checkpoint.proofs.Between.{calls_between}
use Rattle.hg_checkpoint.proofs.laws.calls_between_keep.Goals as goal

pub returns : goal.returns
returns g c = calls_between g.D.Disk g.met.D.Disk.has_its_bytes
