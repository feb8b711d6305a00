use Rattle.std.proofs.Common.{◌≡◌, ◌≤◌, ◌-◌, None}
use Rattle.hg_server.proofs.accepting.accept_all.Given as goal

abbrev pub decreases-loop-connection : goal.decreases-loop-connection
decreases-loop-connection g l = l.connections - l.taken.count

abbrev pub invariant-loop-connection : goal.invariant-loop-connection
invariant-loop-connection g l = (l.taken.count ≤ l.connections) × (l.taken.cut ≡ None)
