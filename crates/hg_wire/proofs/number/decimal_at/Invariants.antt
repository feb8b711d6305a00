use Rattle.std.proofs.Common.{◌+◌, ◌-◌, ◌≤◌, drop}
use Rattle.hg_wire.specs.InFront.{HasRun}
use Rattle.hg_wire.proofs.number.decimal_at.Given as goal

abbrev pub invariant-loop-at : goal.invariant-loop-at
invariant-loop-at l = (l.from ≤ l.at) × (l.at ≤ l.from + 19) × HasRun 10 19 (drop l.from l.bytes) (drop l.at l.bytes) l.value

abbrev pub decreases-loop-at : goal.decreases-loop-at
decreases-loop-at l = l.from + 19 - l.at
