use Rattle.hg_gate.specs.Batches.{header}
use Rattle.hg_journal.proofs.Journaling.{at_first}
use Rattle.hg_journal.proofs.journal.Journal.events.Goals as goal

pub returns-in-Ok-clause-first_behind : goal.returns-in-Ok-clause-first_behind
returns-in-Ok-clause-first_behind g c lead bodies h = at_first g.D.Disk lead c.args.self.now _ bodies h c.in-Ok.ensures.first c.in-Ok.ensures.none

pub returns-in-Ok-clause-first : goal.returns-in-Ok-clause-first
returns-in-Ok-clause-first g c = returns-in-Ok-clause-first_behind g c header
