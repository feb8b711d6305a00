use Rattle.std.proofs.Common.{◌≡◌, ◌≤◌, ◌<◌, ◌^◌, length, take, All}
use Rattle.hg_sets.specs.Soundness.{members_in}
use Rattle.hg_sets.proofs.reserving.room_for.Given as goal

-- the first sets have so many members, and the longest of them so many
abbrev pub invariant-loop-set : goal.invariant-loop-set
invariant-loop-set l = record {
  few : l.members < 2 ^ 32;
  members : l.members ≡ members_in (take l.set-index l.sets);
  longest : All (λ set. length set ≤ l.longest) (take l.set-index l.sets);
  short : l.longest ≤ l.members;
}
