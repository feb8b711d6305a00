use Rattle.std.proofs.Common.{◌≡◌, Ok, length}
use Rattle.hg_checkpoint.specs.declared.phase.Phase.TheVariants.{Flushing}
use Rattle.hg_store.specs.Shown.{words}
use Rattle.hg_commands.specs.FeedFaults.{WorksIn}
use Rattle.hg_commands.specs.FeedRunning.{StaysFed}
use Rattle.hg_commands.specs.Keeping.{KeepsOn}
use Rattle.hg_commands.proofs.lines.Feeding.write_pages.Given as goal

abbrev pub invariant-loop : goal.invariant-loop
invariant-loop g l =
    record {
      stays : StaysFed g.D.Disk {T = Unit {0}} l.fn.self.store l.self.store (Ok tt);
      frozen : l.self.store.frozen ≡ l.fn.self.store.frozen;
      turns : l.self.store.turns ≡ l.fn.self.store.turns;
      flushing : WorksIn Flushing l.self.store;
      kept : KeepsOn g.D.Disk l.fn.self.store l.output.calls l.fn.self.moments l.self.store l.output.calls l.self.moments;
    }

abbrev pub decreases-loop : goal.decreases-loop
decreases-loop g l = length (words l.self.store).waiting
