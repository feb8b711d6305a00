use Rattle.std.proofs.Common.{◌≡◌, ◌≤◌, map, sum, take}
use Rattle.hg_root.proofs.rules.add_up.Given as goal

abbrev pub invariant-loop-source : goal.invariant-loop-source
invariant-loop-source l = record {
  sum : l.sent ≡ sum (map (λ s. s.last) (take l.source-index l.sources));
  within : l.sent ≤ l.events;
}
