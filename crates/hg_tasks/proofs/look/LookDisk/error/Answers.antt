use Rattle.hg_tasks.proofs.Errors.{none_failed}
use Rattle.hg_tasks.proofs.look.LookDisk.error.Goals as goal

pub returns-clause-none : goal.returns-clause-none
returns-clause-none c = rw c.args.self.now.keeps (none_failed c.args.self.now.events)
