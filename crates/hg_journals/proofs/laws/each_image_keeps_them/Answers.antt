use Rattle.hg_journals.proofs.Imaging.{reads, stays}
use Rattle.hg_journals.proofs.laws.each_image_keeps_them.Goals as goal

pub returns-clause-now : goal.returns-clause-now
returns-clause-now g c = reads g.D.Disk c.args.pair.now

pub returns-clause-images : goal.returns-clause-images
returns-clause-images g c = stays g.D.Disk c.args.pair.now
