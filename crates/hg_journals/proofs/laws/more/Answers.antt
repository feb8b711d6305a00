use Rattle.hg_journals.proofs.Walking.{front_read}
use Rattle.hg_journals.proofs.laws.more.Goals as goal

pub returns : goal.returns
returns g c base events seen k h = front_read g.D.Disk c.args.pair.now base events k c.args.reader.now.in_newer c.args.reader.now.reader seen h
