use Rattle.std.proofs.Common.{Result, OnErr, refl, sym, subst}
use Rattle.hg_model.specs.declared.event.Event.{Event}
use Rattle.hg_wire.specs.declared.line.LineFault.{LineFault}
use Rattle.hg_commands.specs.FeedRunning.{BreaksAt}
use Rattle.hg_commands.specs.Stepping.{at}
use Rattle.hg_commands.proofs.FeedSteps.{way_still}
use Rattle.hg_commands.proofs.lines.Feeding.feed_reading.Goals as goal

pub returns-in_default-clause-way : goal.returns-in_default-clause-way
returns-in_default-clause-way g c =
    way_still g.D.Disk c.args.self.now.store c.args.self.now.store c.args.self.now.fed c.args.self.now.fed c.args.output.now.calls c.args.output.now.calls c.args.reading.now (λ honest. refl)

pub returns-clause-front : goal.returns-clause-front
returns-clause-front g c =
    subst (λ (e : Result Event LineFault). OnErr c.feed_event.result (BreaksAt g.D.Disk (at c.args.self.now c.args.output.now) (record { line = c.args.reading.now.line; event = e }) c.feed_event.new.output.calls))
    (sym c.in-Ok.is) c.feed_event.ensures.front
