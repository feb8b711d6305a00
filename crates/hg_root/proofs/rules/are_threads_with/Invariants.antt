use Rattle.std.proofs.Common.{◌↔◌, ◌≤◌, All, Contains, take}
use Rattle.std.specs.Prelude.{IsTrue}
use Rattle.hg_root.proofs.rules.are_threads_with.Given as goal

abbrev pub invariant-loop-member : goal.invariant-loop-member
invariant-loop-member l = record {
  each : All (λ t. t ≤ 1023) (take l.member-index l.members);
  member : IsTrue l.is_member ↔ Contains (take l.member-index l.members) l.thread;
}
