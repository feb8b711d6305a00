use Rattle.std.proofs.Common.{take}
use Rattle.hg_pool.specs.Tables.{AreBelow}
use Rattle.hg_test_pools.proofs.opening.is_below.Given as goal

abbrev pub invariant-loop-i : goal.invariant-loop-i
invariant-loop-i l = AreBelow l.slots (take l.i l.table.entries)
