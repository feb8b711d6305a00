use Rattle.std.proofs.Common.{refl, sym, subst}
use Rattle.hg_tasks.specs.Taking.{IsFresh}
use Rattle.hg_tasks.proofs.stores.explain_events.Goals as goal

pub returns : goal.returns
returns g c = record {
  before = record { input = c.new-2.result; output = c.args.output; faults = c.args.faults };
  fresh = subst (λ t. IsFresh c.args.store t) (sym c.new-2.ensures.stream) c.new.ensures;
  unread = c.new-2.ensures.calls;
  output_is = refl;
  faults_are = refl;
  told = c.explain-status.ensures.prints;
  front = c.explain-status.ensures.front;
  ended = (c.explain-status.ensures.fault, c.explain-status.ensures.quiet);
}
