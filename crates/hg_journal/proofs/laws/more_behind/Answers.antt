use Rattle.hg_journal.proofs.Journaling as journaling
use Rattle.hg_journal.proofs.laws.more_behind.Goals as goal

pub returns : goal.returns
returns g c = λ front seen events h is. journaling.more g.D.Disk front c.args.journal.now c.args.reader.now seen h events is
