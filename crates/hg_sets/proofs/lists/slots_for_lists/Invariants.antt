use Rattle.std.proofs.Common.{◌≡◌, ◌⊎◌, ◌^◌, ◌<◌, ◌≤◌, ◌-◌, ◌/◌}
use Rattle.hg_sets.proofs.lists.slots_for_lists.Given as goal

-- so many slots were too few until now
abbrev pub invariant-loop-count : goal.invariant-loop-count
invariant-loop-count l = record {
  least : 64 ≤ l.count;
  few : l.count ≤ 2 ^ 32;
  needed : (l.count ≡ 64) ⊎ (l.count / 8 < l.lists);
}

abbrev pub decreases-loop-count : goal.decreases-loop-count
decreases-loop-count l = 2 ^ 32 - l.count
