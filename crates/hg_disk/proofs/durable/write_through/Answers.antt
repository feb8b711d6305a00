use Rattle.hg_disk.specs.State.{IsImage, after_write}
use Rattle.hg_disk.proofs.Moments.{write_leaves, sync_leaves, joined, weaker, at_end}
use Rattle.hg_disk.proofs.durable.write_through.Goals as goal

pub returns-in_err-write_at-clause-any_moment : goal.returns-in_err-write_at-clause-any_moment
returns-in_err-write_at-clause-any_moment g c =
    write_leaves g.D.Disk c.args.disk.now c.write_at.new.self c.args.at c.args.bytes.now c.write_at.result c.write_at.ensures.ok c.write_at.ensures.err c.write_at.ensures.clock c.write_at.ensures.kept

pub returns-clause-any_moment : goal.returns-clause-any_moment
returns-clause-any_moment g c =
    let disk = g.D.Disk in
    let torn = IsImage (after_write c.args.at c.args.bytes.now (disk.state c.args.disk.now)) in
    let one = write_leaves disk c.args.disk.now c.write_at.new.self c.args.at c.args.bytes.now c.write_at.result c.write_at.ensures.ok c.write_at.ensures.err c.write_at.ensures.clock c.write_at.ensures.kept in
    let two = sync_leaves disk c.write_at.new.self c.sync.new.self c.sync.result g.met.D.Disk.has_its_bytes c.sync.ensures.ok c.sync.ensures.err c.sync.ensures.clock c.sync.ensures.kept in
    joined disk _ _ _ torn one (weaker disk _ _ _ torn two (at_end disk _ _ torn one))
