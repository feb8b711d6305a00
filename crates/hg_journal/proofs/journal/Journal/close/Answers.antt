use Rattle.std.proofs.Common.{map}
use Rattle.hg_journal.specs.Journal.{batch_text}
use Rattle.hg_journal.proofs.Filing.{spare_or_kept}
use Rattle.hg_journal.proofs.journal.Journal.close.Goals as goal

pub returns-in-Ok-clause-closed : goal.returns-in-Ok-clause-closed
returns-in-Ok-clause-closed g c base events k = c.in-Ok.ensures.closed base (map batch_text k.batches) k.has

pub returns-in-Ok-clause-durable : goal.returns-in-Ok-clause-durable
returns-in-Ok-clause-durable g c base events k = c.in-Ok.ensures.durable base (map batch_text k.batches) k.has

pub returns-in-Ok-clause-any_moment : goal.returns-in-Ok-clause-any_moment
returns-in-Ok-clause-any_moment g c base events fits k =
    spare_or_kept g.D.Disk base events c.args.self.now k c.args.self.now.log.disk c.close.new.self.disk fits (c.close.ensures.any_moment base (map batch_text k.batches) k.has)

pub returns-in-Err-clause-any_moment : goal.returns-in-Err-clause-any_moment
returns-in-Err-clause-any_moment g c base events fits k =
    spare_or_kept g.D.Disk base events c.args.self.now k c.args.self.now.log.disk c.close.new.self.disk fits (c.close.ensures.any_moment base (map batch_text k.batches) k.has)
