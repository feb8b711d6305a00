use Rattle.std.proofs.Common.{◌≡◌, ◌∙◌, ap, refl, subst, sym}
use Rattle.hg_detect.specs.Memory.{content_of}
use Rattle.hg_tasks.specs.Taking.{IsBehind}
use Rattle.hg_tasks.proofs.stores.explain_behind_events.Goals as goal

pub returns : goal.returns
returns g c =
    let gone_is : c.events-gone.result ≡ (content_of c.args.detector).events = c.events-gone.ensures ∙ ap (λ s. s.events) c.state.ensures in
    record {
      before = record { input = c.new.result; output = c.args.output; faults = c.args.faults };
      next = subst (λ n. IsBehind n c.args.store c.new.result.stream) gone_is
          (subst (λ t. IsBehind c.events-gone.result c.args.store t) (sym c.new.ensures.stream) c.behind.ensures);
      unread = c.new.ensures.calls;
      output_is = refl;
      faults_are = refl;
      told = c.explain_behind-status.ensures.prints;
      front = c.explain_behind-status.ensures.front;
      ended = (c.explain_behind-status.ensures.fault, c.explain_behind-status.ensures.quiet);
    }
