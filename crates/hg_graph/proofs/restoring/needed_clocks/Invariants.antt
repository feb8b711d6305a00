use Rattle.std.proofs.Common.{take}
use Rattle.hg_graph.specs.Needed.{AreNeeded}
use Rattle.hg_graph.specs.Pending.{AreKept}
use Rattle.hg_graph.proofs.restoring.needed_clocks.Given as goal

-- the segments so far have their clocks, and their messages are kept
abbrev pub invariant-loop-number : goal.invariant-loop-number
invariant-loop-number l = AreNeeded l.segments l.late l.number l.clocks.items × AreKept l.segments (take l.number l.segments) l.pending
