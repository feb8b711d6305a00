use Rattle.std.proofs.Common.{◌≡◌, ◌≤◌, drop, length}
use Rattle.hg_root.specs.Checking.{HaveLast}
use Rattle.hg_root.proofs.root.last_numbers.Given as goal

abbrev pub invariant-loop-left : goal.invariant-loop-left
invariant-loop-left l = record {
  len : length l.last.items ≡ 1024;
  within : l.left ≤ length l.sources;
  each : HaveLast (drop l.left l.sources) l.last.items;
}

abbrev pub decreases-loop-left : goal.decreases-loop-left
decreases-loop-left l = l.left
