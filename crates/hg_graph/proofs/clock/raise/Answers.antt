use Rattle.std.proofs.Common.{arith}
use Rattle.hg_graph.proofs.Clocking.{raised_more}
use Rattle.hg_graph.proofs.clock.raise.Goals as goal

pub loop-u-preserved : goal.loop-u-preserved
loop-u-preserved c = raised_more c.args.entries.now c.args.other.now c.loop-u.entries c.loop-u.u c.max.result c.loop-u.invariant (omega (arith, c.loop-u-test.true, c.requires)) c.max.ensures
