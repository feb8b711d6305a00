use Rattle.std.proofs.Common.{◌≡◌, ◌++◌, length, take}
use Rattle.std.specs.Int.{w16, to_be_bytes}
use Rattle.std.specs.List.{flat_map}
use Rattle.hg_root.specs.Grammar.{thread_text}
use Rattle.hg_root.proofs.head.put_threads.Given as goal

abbrev pub invariant-loop-i : goal.invariant-loop-i
invariant-loop-i l = l.out.items ≡ (l.fn.out.items ++ to_be_bytes w16 (length l.threads)) ++ flat_map (thread_text l.graph) (take l.i l.threads)
