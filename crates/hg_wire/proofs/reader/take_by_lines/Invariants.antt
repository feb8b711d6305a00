use Rattle.std.proofs.Common.{length}
use Rattle.hg_wire.proofs.ReaderLemmas.{IsTakenTo}
use Rattle.hg_wire.proofs.reader.take_by_lines.Given as goal

abbrev pub invariant-loop-used : goal.invariant-loop-used
invariant-loop-used l = IsTakenTo l.initial.splitter.so_far l.splitter.so_far l.piece l.rest

abbrev pub decreases-loop-used : goal.decreases-loop-used
decreases-loop-used l = length l.rest
