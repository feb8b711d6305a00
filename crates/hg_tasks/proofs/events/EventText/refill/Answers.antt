use Rattle.std.proofs.Common.{rules}
use Rattle.hg_tasks.proofs.events.EventText.refill.Goals as goal

pub returns : goal.returns
returns g c = record {
  events = c.in_ok-events.events;
  found = c.in_ok-events.ensures.events;
  text = search rules;
  first = search rules;
  next = search rules;
  rest = c.in_ok-events.ensures.rest;
}
