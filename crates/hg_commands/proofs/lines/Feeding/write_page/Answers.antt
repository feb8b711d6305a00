use Rattle.std.proofs.Common.{Option, Result, Ok, ap, subst, ◌∙◌}
use Rattle.std.specs.Prelude.{IfOk}
use Rattle.hg_pool.specs.Calls.{IsNextJob}
use Rattle.hg_pool.specs.declared.job.Job.{Job}
use Rattle.hg_store.specs.Shown.{words}
use Rattle.hg_store.specs.declared.steps.StepFault.{StepFault}
use Rattle.hg_commands.proofs.Checkpointed.{next_waits}
use Rattle.hg_commands.proofs.lines.Feeding.write_page.Goals as goal

pub put-requires-clause-waits : goal.put-requires-clause-waits
put-requires-clause-waits g c =
    let p = words c.args.self.now.store in
    let next = subst (λ (r : Result (Option Job) StepFault). IfOk r (IsNextJob p)) (c.in-Ok-Some.is ∙ ap (λ (o : Option Job). Ok o) c.in-Ok-Some.field-0-is) c.take_job.ensures.job in
    next_waits p c.in-Ok-Some.job c.in-Ok.page next c.in-Ok.ensures.page c.in-Ok.ensures.bytes
