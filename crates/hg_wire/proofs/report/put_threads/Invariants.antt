use Rattle.std.proofs.Common.{◌≡◌, ◌∷◌, ◌++◌, length, take}
use Rattle.std.specs.Fmt.{decimal}
use Rattle.std.specs.List.{flat_map}
use Rattle.hg_wire.proofs.report.put_threads.Given as goal

abbrev pub invariant-loop-thread : goal.invariant-loop-thread
invariant-loop-thread l = (l.out.items ≡ l.initial.out.items ++ flat_map (λ t. 44 ∷ decimal t) (take l.thread-index l.others)) × (l.len ≡ length l.fn.out.items)
