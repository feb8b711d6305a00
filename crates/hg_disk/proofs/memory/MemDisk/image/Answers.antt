use Rattle.std.proofs.Common.{sym, subst, arith}
use Rattle.hg_disk.specs.State.{DiskState, IsImage}
use Rattle.hg_disk.specs.Tear.{first}
use Rattle.hg_disk.proofs.Calling.{state_at_moment, torn_at}
use Rattle.hg_disk.proofs.Tears.{torn_image}
use Rattle.hg_disk.proofs.memory.MemDisk.image.Goals as goal

pub returns-clause-torn : goal.returns-clause-torn
returns-clause-torn c =
    let disk = c.args.self.now in
    torn_at disk.start.items disk.tape.history.events c.args.k c.loop-i.i c.args.tear c.loop-i.replay c.requires (omega arith) c.loop-i.invariant.tear c.loop-i.invariant.stands

pub returns-clause-image : goal.returns-clause-image
returns-clause-image c =
    let disk = c.args.self.now in
    let torn = torn_at disk.start.items disk.tape.history.events c.args.k c.loop-i.i c.args.tear c.loop-i.replay c.requires (omega arith) c.loop-i.invariant.tear c.loop-i.invariant.stands in
    subst (λ (s : DiskState). IsImage s c.loop-i.replay.torn.items) (sym (state_at_moment disk.start.items disk.tape.history.events c.args.k))
    (torn_image c.args.tear disk.start.items (first c.args.k disk.tape.history.events) c.loop-i.replay.torn.items torn)
