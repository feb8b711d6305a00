use Rattle.hg_disk.proofs.Moments.{sync_leaves}
use Rattle.hg_disk.proofs.Staying.{then}
use Rattle.hg_migration.proofs.migrating.prepare.Goals as goal

pub returns-in_err-sync-clause-any_moment : goal.returns-in_err-sync-clause-any_moment
returns-in_err-sync-clause-any_moment g c = sync_leaves g.D.Disk c.args.journal.now c.sync.new.self c.sync.result g.met.D.Disk.has_its_bytes c.sync.ensures.ok c.sync.ensures.err c.sync.ensures.clock c.sync.ensures.kept

pub returns-clause-any_moment : goal.returns-clause-any_moment
returns-clause-any_moment g c =
    then g.D.Disk c.args.journal.now c.sync.new.self c.read_header.new.journal
    (sync_leaves g.D.Disk c.args.journal.now c.sync.new.self c.sync.result g.met.D.Disk.has_its_bytes c.sync.ensures.ok c.sync.ensures.err c.sync.ensures.clock c.sync.ensures.kept) c.read_header.ensures.reads.any_moment
