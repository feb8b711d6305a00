use Rattle.std.proofs.Common.{◌≡◌, map, take}
use Rattle.hg_root.proofs.root.numbers_of.Given as goal

abbrev pub invariant-loop-i : goal.invariant-loop-i
invariant-loop-i l = l.numbers.items ≡ map (λ t. t.number) (take l.i l.threads)
