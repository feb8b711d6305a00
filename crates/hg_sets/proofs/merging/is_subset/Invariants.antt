use Rattle.std.proofs.Common.{◌≡◌, ◌≤◌, length, drop}
use Rattle.std.specs.List.{list_all}
use Rattle.hg_model.specs.Sets.{contains}
use Rattle.hg_sets.proofs.merging.is_subset.Given as goal

-- what is left is a subset exactly where all is
abbrev pub invariant-loop-other : goal.invariant-loop-other
invariant-loop-other l = record {
  within : l.i ≤ length l.members;
  rest : list_all (contains (drop l.other-index l.others)) (drop l.i l.members) ≡ list_all (contains l.others) l.members;
}
