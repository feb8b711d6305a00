use Rattle.hg_commands.specs.Feeding.{ack_text}
use Rattle.hg_store.specs.declared.steps.Step.TheVariants as step
use Rattle.hg_store.specs.declared.steps.StepResult.TheVariants as told
use Rattle.hg_commands.specs.TakingLaws.{keeps_then}
use Rattle.hg_commands.proofs.Kept.{ack_enough, keeps_commit, keeps_printed}
use Rattle.hg_commands.proofs.Making.{makes_commit, moment_is}
use Rattle.hg_commands.proofs.lines.Feeding.acknowledge.Goals as goal

pub returns-in_err-committed-clause-kept : goal.returns-in_err-committed-clause-kept
returns-in_err-committed-clause-kept g c =
    keeps_commit g.D.Disk c.args.self.now.store c.commit-committed.new.self c.args.output.now.calls c.args.self.now.moments c.push.new.self c.behind.result c.commit-committed.result
    c.commit-committed.ensures.done c.commit-committed.ensures.images c.stands.ensures.backs c.push.ensures step.Commit (told.Committed c.commit-committed.result)
    (moment_is c.of-began.result.value c.args.self.now.store c.commit-committed.new.self c.behind.result c.of-made.result step.Commit (told.Committed c.commit-committed.result) c.args.output.now.calls c.behind.ensures c.of-made.ensures c.of-began.ensures)
    (makes_commit g.D.Disk c.args.self.now.store c.commit-committed.new.self c.commit-committed.result c.commit-committed.ensures.done c.commit-committed.ensures.device c.commit-committed.ensures.images)

pub returns-clause-kept : goal.returns-clause-kept
returns-clause-kept g c =
    let s = c.args.self.now.store in
    let m = c.commit-committed.new.self in
    let calls = c.args.output.now.calls in
    keeps_then g.D.Disk s m m calls calls c.print_number.new.output.calls c.args.self.now.moments c.push.new.self c.push.new.self
    (keeps_commit g.D.Disk s m calls c.args.self.now.moments c.push.new.self c.behind.result c.commit-committed.result
    c.commit-committed.ensures.done c.commit-committed.ensures.images c.stands.ensures.backs c.push.ensures step.Commit (told.Committed c.commit-committed.result)
    (moment_is c.of-began.result.value c.args.self.now.store c.commit-committed.new.self c.behind.result c.of-made.result step.Commit (told.Committed c.commit-committed.result) c.args.output.now.calls c.behind.ensures c.of-made.ensures c.of-began.ensures)
    (makes_commit g.D.Disk c.args.self.now.store c.commit-committed.new.self c.commit-committed.result c.commit-committed.ensures.done c.commit-committed.ensures.device c.commit-committed.ensures.images))
    (keeps_printed g.D.Disk m calls c.print_number.new.output.calls c.push.new.self (ack_text c.in_ok-committed.field-0) c.print_number.ensures.calls
    (λ honest backs. ack_enough g.D.Disk s m c.in_ok-committed.field-0 c.in_ok-committed.ensures.done))
