use Rattle.hg_tasks.proofs.Spelled.{lines_read}
use Rattle.hg_tasks.proofs.events.lines_are_read.Goals as goal

pub returns : goal.returns
returns c = lines_read
