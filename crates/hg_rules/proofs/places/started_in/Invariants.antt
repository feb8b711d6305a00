use Rattle.std.proofs.Common.{◌≡◌, ◌++◌, drop}
use Rattle.hg_rules.specs.Tables.{started}
use Rattle.hg_rules.proofs.places.started_in.Given as goal

-- the threads so far, and those of the places to come
abbrev pub invariant-loop-slot : goal.invariant-loop-slot
invariant-loop-slot l = l.threads.items ++ started (drop l.slot-index l.slots) ≡ started l.slots
