use Rattle.std.proofs.Common.{drop}
use Rattle.hg_reading.proofs.Queueing.{IsOfferedTo}
use Rattle.hg_reading.proofs.queued.offer_each.Given as goal

abbrev pub invariant-loop-it : goal.invariant-loop-it
invariant-loop-it g l = IsOfferedTo g.S.Sink.takes l.fn.lines l.fn.queued l.fn.sink l.fn.output.calls l.sink l.output.calls l.lines (drop l.it-index l.fn.queued)
