use Rattle.std.proofs.Common.{length}
use Rattle.hg_reading.proofs.Parsing.{IsParsedTo}
use Rattle.hg_reading.proofs.part.queue_lines.Given as goal

abbrev pub invariant-loop-it : goal.invariant-loop-it
invariant-loop-it g l = IsParsedTo l.fn.text (g.Q.Queue.held l.queue) l.extent.lines l.extent.bytes l.reader l.rest

abbrev pub decreases-loop-it : goal.decreases-loop-it
decreases-loop-it g l = length l.rest
