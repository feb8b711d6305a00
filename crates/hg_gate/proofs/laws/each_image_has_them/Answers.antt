use Rattle.std.proofs.Common.{[]}
use Rattle.hg_gate.proofs.Appending.{each_image}
use Rattle.hg_gate.proofs.laws.each_image_has_them.Goals as goal

pub returns : goal.returns
returns g c = λ front bodies h. each_image g.D.Disk front c.args.log.now bodies h []
