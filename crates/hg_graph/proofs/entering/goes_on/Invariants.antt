use Rattle.std.proofs.Common.{◌≡◌, ◌-◌, ◌&&◌, false, nat_le, drop, get_or}
use Rattle.std.specs.List.{list_any}
use Rattle.hg_graph.proofs.entering.goes_on.Given as goal

-- what is left of them decides
abbrev pub invariant-loop-x : goal.invariant-loop-x
invariant-loop-x l = list_any (λ x. nat_le l.from x && get_or l.reached (x - l.from) false) (drop l.x-index l.before) ≡ list_any (λ x. nat_le l.from x && get_or l.reached (x - l.from) false) l.before
