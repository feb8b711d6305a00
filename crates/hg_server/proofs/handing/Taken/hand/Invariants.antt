use Rattle.std.proofs.Common.{◌≡◌}
use Rattle.hg_server.proofs.handing.Taken.hand.Given as goal

abbrev pub invariant-loop : goal.invariant-loop
invariant-loop g l = (l.self.count ≡ l.fn.self.count) × (l.self.cut ≡ l.fn.self.cut)
