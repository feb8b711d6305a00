use Rattle.std.proofs.Common.{◌≡◌, ◌+◌, ◌-◌, ◌≤◌, ◌++◌, length, drop, vec_len, vec_capacity}
use Rattle.hg_model.specs.Sets.{common}
use Rattle.hg_sets.proofs.merging.write_common.Given as goal

-- what is kept and what is left have in common what all had
abbrev pub invariant-loop-i : goal.invariant-loop-i
invariant-loop-i l = record {
  in_members : l.i ≤ length l.members;
  in_others : l.k ≤ length l.others;
  few : vec_len l.kept ≤ l.i;
  room : length l.members ≤ vec_capacity l.kept;
  capacity : vec_capacity l.initial.kept ≤ vec_capacity l.kept;
  rest : l.kept.items ++ common (drop l.i l.members) (drop l.k l.others) ≡ common l.members l.others;
}

abbrev pub decreases-loop-i : goal.decreases-loop-i
decreases-loop-i l = (length l.members - l.i) + (length l.others - l.k)
