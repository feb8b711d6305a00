use Rattle.std.proofs.Common.{◌≡◌, ◌≤◌, ◌<◌, ◌++◌, length, take, drop}
use Rattle.std.specs.List.{remove}
use Rattle.hg_model.proofs.held.move_back.Given as goal

-- what stands before here has the item that was behind it
abbrev pub invariant-loop-i : goal.invariant-loop-i
invariant-loop-i g l = record {
  begun : l.place ≤ l.i;
  within : l.i < length l.initial.items;
  moved : l.items ≡ take l.i (remove l.initial.items l.place) ++ drop l.i l.initial.items;
}
