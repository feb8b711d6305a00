use Rattle.hg_reading.proofs.Queueing.{queued_alone, queued_behind}
use Rattle.hg_reading.proofs.queued.VecQueuedQueue.push.Goals as goal

pub returns-then-passed-eq0-clause-pushed : goal.returns-then-passed-eq0-clause-pushed
returns-then-passed-eq0-clause-pushed c =
    queued_alone c.args.self.now.items c.push.new.queued.items c.args.it c.args.passed c.push.ensures.items c.if-passed-eq0.true c.requires.event

pub returns-clause-pushed : goal.returns-clause-pushed
returns-clause-pushed c =
    queued_behind c.args.self.now.items c.push-2.new.queued.items c.push-3.new.queued.items c.args.it c.args.passed c.push-2.ensures.items c.push-3.ensures.items c.requires.event
