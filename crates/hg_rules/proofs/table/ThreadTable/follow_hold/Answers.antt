use Rattle.std.proofs.Common.{subst}
use Rattle.hg_model.specs.declared.event.HoldKind.{HoldKind}
use Rattle.hg_model.specs.Holding.{event_on}
use Rattle.hg_model.specs.Verdicts.{MayFollow}
use Rattle.hg_model.proofs.Accepted.{room_for_lock, room_for_read_lock}
use Rattle.hg_rules.proofs.table.ThreadTable.follow_hold.Goals as goal

pub lock-requires-clause-used : goal.lock-requires-clause-used
lock-requires-clause-used c = room_for_lock c.args.self.now c.args.hold.t c.args.hold.l (subst (λ (k : HoldKind). MayFollow c.args.self.now (event_on k c.args.hold.t c.args.hold.l)) c.in-Lock.is c.requires)

pub read_lock-requires-clause-used : goal.read_lock-requires-clause-used
read_lock-requires-clause-used c = room_for_read_lock c.args.self.now c.args.hold.t c.args.hold.l (subst (λ (k : HoldKind). MayFollow c.args.self.now (event_on k c.args.hold.t c.args.hold.l)) c.in-RdLock.is c.requires)
