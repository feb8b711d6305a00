use Rattle.std.proofs.Common.{◌≡◌, None, replicate}
use Rattle.hg_rules.proofs.places.empty_slots.Given as goal

-- an empty place for each turn
abbrev pub invariant-loop : goal.invariant-loop
invariant-loop l = l.slots.items ≡ replicate l.counter None
