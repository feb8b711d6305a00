use Rattle.std.proofs.Common.{arith, subst, sym}
use Rattle.hg_commands.specs.FeedFaults.{IsToldBy}
use Rattle.hg_commands.proofs.Checkpointed.{failed_is}
use Rattle.std.proofs.Common.{refl}
use Rattle.hg_commands.proofs.Kept.{keeps_stepped}
use Rattle.hg_commands.proofs.Making.{moment_is}
use Rattle.hg_commands.proofs.lines.Feeding.note_step.Goals as goal

pub returns-in-Ok-clause-kept : goal.returns-in-Ok-clause-kept
returns-in-Ok-clause-kept g c =
    keeps_stepped g.D.Disk c.args.began.value c.args.self.now.store c.args.output.now.calls c.args.self.now.moments c.push.new.self c.behind.result c.args.done c.requires.stepped c.stands.ensures.backs c.push.ensures c.args.step.now c.args.answer.now
    (moment_is c.args.began.value c.args.began.value c.args.self.now.store c.behind.result c.of-made.result c.args.step.now c.args.answer.now c.args.output.now.calls c.behind.ensures c.of-made.ensures refl) c.requires.made

pub returns-in-Err-clause-kept : goal.returns-in-Err-clause-kept
returns-in-Err-clause-kept g c =
    keeps_stepped g.D.Disk c.args.began.value c.args.self.now.store c.args.output.now.calls c.args.self.now.moments c.push.new.self c.behind.result c.args.done c.requires.stepped c.stands.ensures.backs c.push.ensures c.args.step.now c.args.answer.now
    (moment_is c.args.began.value c.args.began.value c.args.self.now.store c.behind.result c.of-made.result c.args.step.now c.args.answer.now c.args.output.now.calls c.behind.ensures c.of-made.ensures refl) c.requires.made

pub returns-in-Err-clause-stays : goal.returns-in-Err-clause-stays
returns-in-Err-clause-stays g c = record {
  live = c.requires.stepped.live;
  committed = c.requires.stepped.committed;
  pending = c.requires.stepped.pending;
  failures = omega (arith, c.requires.stepped.failures, failed_is c.args.done c.in-Err.fault c.in-Err.is, c.refusal_of.ensures.counted);
}

pub returns-in-Err-clause-told : goal.returns-in-Err-clause-told
returns-in-Err-clause-told g c = subst (λ d. IsToldBy d c.refusal_of.result) (sym c.in-Err.is) c.refusal_of.ensures.told
