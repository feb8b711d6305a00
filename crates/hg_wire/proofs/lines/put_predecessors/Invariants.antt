use Rattle.std.proofs.Common.{◌≡◌, ◌∷◌, ◌++◌, length, take}
use Rattle.std.specs.Fmt.{decimal}
use Rattle.std.specs.List.{flat_map}
use Rattle.hg_wire.proofs.lines.put_predecessors.Given as goal

abbrev pub invariant-loop-number : goal.invariant-loop-number
invariant-loop-number l = (l.out.items ≡ l.initial.out.items ++ flat_map (λ n. 44 ∷ decimal n) (take l.number-index l.others)) × (l.len ≡ length l.fn.out.items)
