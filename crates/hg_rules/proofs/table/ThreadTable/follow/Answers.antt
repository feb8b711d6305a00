use Rattle.std.proofs.Common.{subst}
use Rattle.hg_model.specs.Verdicts.{MayFollow}
use Rattle.hg_model.proofs.Accepted.{room_for_lock, room_for_read_lock}
use Rattle.hg_rules.proofs.table.ThreadTable.follow.Goals as goal

pub lock-requires-clause-used : goal.lock-requires-clause-used
lock-requires-clause-used c = room_for_lock c.args.self.now c.in-Lock.t c.in-Lock.l (subst (MayFollow c.args.self.now) c.in-Lock.is c.requires)

pub read_lock-requires-clause-used : goal.read_lock-requires-clause-used
read_lock-requires-clause-used c = room_for_read_lock c.args.self.now c.in-RdLock.t c.in-RdLock.l (subst (MayFollow c.args.self.now) c.in-RdLock.is c.requires)
