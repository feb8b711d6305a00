use Rattle.hg_gate.specs.Batches.{header}
use Rattle.hg_journal.proofs.Journaling as journaling
use Rattle.hg_journal.proofs.laws.more.Goals as goal

pub returns : goal.returns
returns g c = λ seen events h is. journaling.more g.D.Disk header c.args.journal.now c.args.reader.now seen h events is
