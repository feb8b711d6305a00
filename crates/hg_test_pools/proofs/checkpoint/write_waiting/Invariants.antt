use Rattle.std.proofs.Common.{ℕ}
use Rattle.hg_pool.specs.Kept.{AreWithin}
use Rattle.hg_test_pools.proofs.checkpoint.write_waiting.Given as goal

abbrev pub invariant-loop : goal.invariant-loop
invariant-loop g l = (n m : ℕ) → AreWithin l.fn.pool.frames n m → AreWithin l.pool.frames n m
