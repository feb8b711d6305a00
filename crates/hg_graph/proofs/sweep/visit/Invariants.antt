use Rattle.std.proofs.Common.{◌≡◌, ℕ, ◌||◌, ◌&&◌, false, nat_eq, nat_le, get_or, take}
use Rattle.std.specs.List.{list_any}
use Rattle.hg_graph.proofs.sweep.visit.Given as goal

-- those so far are seen
abbrev pub invariant-loop-x : goal.invariant-loop-x
invariant-loop-x l = (i : ℕ) → get_or l.visited i false ≡ (get_or l.initial.visited i false || (nat_le l.from i && list_any (λ x. nat_eq x i) (take l.x-index l.before)))
