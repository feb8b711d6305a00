use Rattle.std.proofs.Common.{[], ◌∷◌, subst}
use Rattle.hg_model.specs.declared.event.Event.{Event}
use Rattle.hg_parts.specs.Stopping.{reading_at}
use Rattle.hg_parts.specs.Taking.{TakesLines}
use Rattle.hg_parts.proofs.sink.PartsSinkSink.offer_access.Goals as goal

pub returns : goal.returns
returns g c =
    let calls = c.args._output.now.calls in
    record { takes = subst (λ (e : Event). TakesLines c.args.self.now.checking calls (reading_at c.args.line e ∷ []) c.offer_event.result c.offer_event.new.self calls) c.access_event-event.ensures (c.offer_event.ensures calls) }
