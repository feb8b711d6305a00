use Rattle.std.proofs.Common.{◌≡◌, ◌≤◌, length, take}
use Rattle.hg_parts.specs.Numbers.{number_at}
use Rattle.hg_parts.proofs.runs.line_at.Given as goal

abbrev pub invariant-loop-left : goal.invariant-loop-left
invariant-loop-left l = (l.left ≤ length l.runs) × (number_at (take l.left l.runs) l.place ≡ number_at l.runs l.place)

abbrev pub decreases-loop-left : goal.decreases-loop-left
decreases-loop-left l = l.left
