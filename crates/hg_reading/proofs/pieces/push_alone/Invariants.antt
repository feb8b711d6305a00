use Rattle.std.proofs.Common.{length}
use Rattle.hg_reading.specs.Taking.{Passes}
use Rattle.hg_reading.proofs.pieces.push_alone.Given as goal

abbrev pub invariant-loop-found : goal.invariant-loop-found
invariant-loop-found g l = Passes g.S.Sink.takes l.fn.reader l.fn.sink l.fn.output.calls l.piece l.reader l.sink l.output.calls l.rest

abbrev pub decreases-loop-found : goal.decreases-loop-found
decreases-loop-found g l = length l.rest
