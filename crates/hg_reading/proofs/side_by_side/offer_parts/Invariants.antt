use Rattle.std.proofs.Common.{drop}
use Rattle.hg_reading.specs.Queueing.{AreHeld}
use Rattle.hg_reading.specs.Taking.{Passes}
use Rattle.hg_reading.proofs.side_by_side.offer_parts.Given as goal

abbrev pub invariant-loop-part : goal.invariant-loop-part
invariant-loop-part g l = record {
  passes : Passes g.S.Sink.takes l.fn.reader l.fn.sink l.fn.output.calls l.fn.text l.reader l.sink l.output.calls l.rest;
  held : AreHeld g.S.Queue.Queue.held (drop l.part-index l.fn.parts) l.rest;
}
