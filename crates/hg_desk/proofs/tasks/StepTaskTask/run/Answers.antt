use Rattle.hg_desk.proofs.Counts.{taken_within}
use Rattle.hg_desk.proofs.tasks.StepTaskTask.run.Goals as goal

pub returns-clause-promise : goal.returns-clause-promise
returns-clause-promise g c =
    (c.step.ensures.told_of, taken_within g.D.Disk c.args.core.now c.step.new.self c.args.self.step c.step.result c.step.ensures.done, c.step.ensures.steps)
