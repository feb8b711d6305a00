use Rattle.std.proofs.Common.{arith, inl, inr, refl}
use Rattle.hg_tasks.proofs.events.EventTextRead.read.Goals as goal

pub returns-then-self-len-clause-lines : goal.returns-then-self-len-clause-lines
returns-then-self-len-clause-lines g c = record { between = c.args.self.now; taken = inl refl; given = c.give.ensures }

pub returns-in-Ok-clause-lines : goal.returns-in-Ok-clause-lines
returns-in-Ok-clause-lines g c = record {
  between = c.refill.new.self;
  taken = inr (omega (arith, c.if-self-len.false, c.len.ensures), c.in-Ok.ensures);
  given = c.give-in-Ok.ensures;
}
