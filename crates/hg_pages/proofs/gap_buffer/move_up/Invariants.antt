use Rattle.std.proofs.Common.{◌≡◌, ◌≤◌, ◌-◌}
use Rattle.hg_pages.specs.Gaps.{without_gap}
use Rattle.hg_pages.proofs.gap_buffer.move_up.Given as goal

abbrev pub invariant-loop-at : goal.invariant-loop-at
invariant-loop-at l = (l.from ≤ l.at) × (l.at ≤ l.place) × (without_gap l.at l.width l.places ≡ without_gap l.from l.width l.initial.places)

abbrev pub decreases-loop-at : goal.decreases-loop-at
decreases-loop-at l = l.place - l.at
