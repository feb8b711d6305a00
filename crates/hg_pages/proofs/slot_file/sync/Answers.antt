use Rattle.hg_disk.proofs.Moments.{sync_leaves}
use Rattle.hg_pages.proofs.slot_file.sync.Goals as goal

pub returns-clause-any_moment : goal.returns-clause-any_moment
returns-clause-any_moment g c = sync_leaves g.D.Disk c.args.disk.now c.sync.new.self c.sync.result g.met.D.Disk.has_its_bytes c.sync.ensures.ok c.sync.ensures.err c.sync.ensures.clock c.sync.ensures.kept
