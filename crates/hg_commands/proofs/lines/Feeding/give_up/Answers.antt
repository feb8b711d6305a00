use Rattle.std.proofs.Common.{◌∙◌, ap}
use Rattle.hg_detect.specs.Shown as detect
use Rattle.hg_pool.specs.Maps as pools
use Rattle.hg_pool.specs.Shown as pool
use Rattle.hg_store.specs.Images.{failures_of}
use Rattle.hg_commands.proofs.Causes.{answer_is_counted}
use Rattle.hg_commands.proofs.Checkpointed.{retire_fails, retired_works, retires}
use Rattle.hg_store.specs.declared.steps.Step.TheVariants as step
use Rattle.hg_store.specs.declared.steps.StepResult.TheVariants as told
use Rattle.hg_commands.proofs.Kept.{keeps_retired}
use Rattle.hg_commands.proofs.Making.{makes_retire, moment_is}
use Rattle.hg_commands.proofs.lines.Feeding.give_up.Goals as goal

pub returns-clause-stays : goal.returns-clause-stays
returns-clause-stays g c =
    let same = c.retire-retired.ensures.done.same in
    record {
      live = λ honest. ap (λ (d : detect.ShownDetector (pool.ShownPool g.row.D.Denot)). detect.content (pools.live g.D.Disk) d) same.detector;
      committed = same.committed;
      pending = same.pending;
      failures = c.retire-retired.ensures.device ∙ answer_is_counted c.retire-retired.result (failures_of g.D.Disk c.args.self.now.store.devices);
    }

pub returns-clause-retired : goal.returns-clause-retired
returns-clause-retired g c = retires c.args.self.now.store c.retire-retired.new.self c.retire-retired.result c.retire-retired.ensures.done.answer

pub returns-clause-works : goal.returns-clause-works
returns-clause-works g c = retired_works c.args.self.now.store c.retire-retired.new.self c.retire-retired.result c.retire-retired.ensures.done.answer

pub returns-clause-cause : goal.returns-clause-cause
returns-clause-cause g c = retire_fails c.args.self.now.store c.retire-retired.new.self c.retire-retired.result c.requires.works c.retire-retired.ensures.done.answer

pub returns-clause-kept : goal.returns-clause-kept
returns-clause-kept g c =
    keeps_retired g.D.Disk c.args.self.now.store c.retire-retired.new.self c.args.output.now.calls c.args.self.now.moments c.push.new.self c.behind.result c.retire-retired.result
    c.retire-retired.ensures.done c.retire-retired.ensures.images c.stands.ensures.backs c.retire-retired.ensures.limits c.push.ensures step.Retire (told.Retired c.retire-retired.result)
    (moment_is c.of-began.result.value c.args.self.now.store c.retire-retired.new.self c.behind.result c.of-made.result step.Retire (told.Retired c.retire-retired.result) c.args.output.now.calls c.behind.ensures c.of-made.ensures c.of-began.ensures)
    (makes_retire g.D.Disk c.args.self.now.store c.retire-retired.new.self c.retire-retired.result c.retire-retired.ensures.done c.retire-retired.ensures.device c.retire-retired.ensures.images)
