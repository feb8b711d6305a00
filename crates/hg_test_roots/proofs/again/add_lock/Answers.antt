use Rattle.std.proofs.Common.{arith}
use Rattle.hg_test_roots.proofs.Fitting.{holds_fit}
use Rattle.hg_test_roots.proofs.again.add_lock.Goals as goal

pub returns-then-not-has : goal.returns-then-not-has
returns-then-not-has c = rw c.add.ensures (holds_fit (record { lock = c.args.lock; write = c.args.write }) c.args.held.now (omega (arith, c.ranges.lock.fits)) c.requires)
