use Rattle.std.proofs.Common.{[], refl}
use Rattle.hg_journal.proofs.Filing.{keeps_none, spare_or_new}
use Rattle.hg_journal.proofs.journal.Journal.open.Goals as goal

pub returns-in-Ok-clause-opened : goal.returns-in-Ok-clause-opened
returns-in-Ok-clause-opened g c h = let is = c.in-Ok.ensures.opened h in (keeps_none g.D.Disk c.args.base _ is.0, is.1)

pub returns-in-Ok-clause-durable : goal.returns-in-Ok-clause-durable
returns-in-Ok-clause-durable g c h image is = (c.requires, record { batches = []; log = c.in-Ok.ensures.durable h image is; fits = tt; whole = refl })

pub returns-in-Ok-clause-any_moment : goal.returns-in-Ok-clause-any_moment
returns-in-Ok-clause-any_moment g c h = spare_or_new g.D.Disk c.args.base c.args.self.now.log.disk c.open.new.self.disk c.requires (c.open.ensures.any_moment h)

pub returns-in-Err-clause-any_moment : goal.returns-in-Err-clause-any_moment
returns-in-Err-clause-any_moment g c h = spare_or_new g.D.Disk c.args.base c.args.self.now.log.disk c.open.new.self.disk c.requires (c.open.ensures.any_moment h)
