use Rattle.hg_migration.proofs.Emptied.{synced}
use Rattle.hg_migration.proofs.emptying.empty.Goals as goal

pub returns-clause-any_moment : goal.returns-clause-any_moment
returns-clause-any_moment g c =
    synced g.D.Disk c.args.disk.now c.cut_all.new.disk c.sync.new.self c.sync.result g.met.D.Disk.has_its_bytes c.cut_all.ensures.any_moment c.sync.ensures.ok c.sync.ensures.err c.sync.ensures.clock c.sync.ensures.kept
