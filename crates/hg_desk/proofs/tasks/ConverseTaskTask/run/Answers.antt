use Rattle.hg_desk.proofs.Turns.{turn_count, turn_told}
use Rattle.hg_desk.proofs.tasks.ConverseTaskTask.run.Goals as goal

pub returns-in-Ok-clause-promise : goal.returns-in-Ok-clause-promise
returns-in-Ok-clause-promise g c = (
  record {
    count = turn_count g.D.Disk c.args.self.desk c.args.core.now c.answer_all-answered.new.core c.args.share.now c.answer_all-answered.new.share c.args.self.frames.now c.answer_all-answered.new.self c.in-Ok.replies.items c.in-Ok.ensures.ok;
    fits = c.in-Ok.ensures.fits;
    share = turn_told g.D.Disk c.args.self.desk c.args.core.now c.answer_all-answered.new.core c.args.share.now c.answer_all-answered.new.share c.args.self.frames.now c.answer_all-answered.new.self c.in-Ok.replies.items c.in-Ok.ensures.ok;
  },
  record {
    old = c.args.core.now;
    new = c.answer_all-answered.new.core;
    had = c.went_on.ensures;
    has = c.went_on-2.ensures;
    turn = c.in-Ok.ensures.ok;
    counted = c.events-events.ensures;
  },
)
