use Rattle.std.proofs.Common.{◌≡◌, ◌+◌, ◌-◌, ◌<◌, ◌^◌, length}
use Rattle.hg_reading.specs.Whole.{HasKept}
use Rattle.hg_reading.proofs.kept.keep_pieces.Given as goal

abbrev pub invariant-loop-reads : goal.invariant-loop-reads
invariant-loop-reads g l =
    record {
      kept : HasKept l.fn.input.calls l.input.calls l.kept.items;
      size : 0 < length l.piece;
      counted : length l.input.calls ≡ l.reads + length l.fn.input.calls;
    }

abbrev pub decreases-loop-reads : goal.decreases-loop-reads
decreases-loop-reads g l = 2 ^ 32 - l.reads
