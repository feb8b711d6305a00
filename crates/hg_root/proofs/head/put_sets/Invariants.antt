use Rattle.std.proofs.Common.{◌≡◌, ◌++◌, length, take}
use Rattle.std.specs.Int.{w32, to_be_bytes}
use Rattle.std.specs.List.{flat_map}
use Rattle.hg_root.specs.Grammar.{set_text}
use Rattle.hg_root.proofs.head.put_sets.Given as goal

abbrev pub invariant-loop-i : goal.invariant-loop-i
invariant-loop-i l = l.out.items ≡ (l.fn.out.items ++ to_be_bytes w32 (length l.sets.sets)) ++ flat_map set_text (take l.i l.sets.sets)
