use Rattle.std.proofs.Common.{◌≡◌, ◌-◌, false, take}
use Rattle.std.specs.List.{list_any}
use Rattle.hg_model.specs.Paths as paths
use Rattle.hg_test_plain.proofs.paths.+reaches_within.Given as goal

abbrev pub decreases-reaches_within : goal.decreases-reaches_within
decreases-reaches_within l = l.edges

-- no segment so far is reached
abbrev pub invariant-loop-middle : goal.invariant-loop-middle
invariant-loop-middle l = list_any (λ x. paths.reaches_within l.segments (l.edges - 1) l.from x) (take l.middle-index l.middle-items) ≡ false
