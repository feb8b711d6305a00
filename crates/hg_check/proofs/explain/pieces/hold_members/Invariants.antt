use Rattle.std.proofs.Common.{◌≡◌, ◌∷◌, ◌++◌, take}
use Rattle.std.specs.Fmt.{decimal}
use Rattle.std.specs.List.{flat_map}
use Rattle.hg_check.proofs.explain.pieces.hold_members.Given as goal

abbrev pub invariant-loop-member : goal.invariant-loop-member
invariant-loop-member l = l.held.items ≡ l.initial.held.items ++ flat_map (λ n. 44 ∷ decimal n) (take l.member-index l.others)
