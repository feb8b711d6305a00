use Rattle.std.proofs.Common.{◌≡◌, ◌≤◌, ◌++◌, get_or, take, drop}
use Rattle.std.specs.List.{insert}
use Rattle.hg_model.proofs.held.move_on.Given as goal

-- what stands before here has its item, and the next one is carried
abbrev pub invariant-loop-i : goal.invariant-loop-i
invariant-loop-i g l = record {
  begun : l.place ≤ l.i;
  moved : l.items ≡ take l.i (insert l.initial.items l.place l.fn.item) ++ drop l.i l.initial.items;
  next : l.carried ≡ get_or (insert l.initial.items l.place l.fn.item) l.i l.fn.item;
}
