use Rattle.std.proofs.Common.{◌≡◌, ◌+◌, ◌-◌, ◌*◌, ◌≤◌, ◌^◌, length}
use Rattle.hg_reading.specs.Taking.{HasRead}
use Rattle.hg_reading.proofs.groups.read_groups.Given as goal

abbrev pub invariant-loop-reads : goal.invariant-loop-reads
invariant-loop-reads g l =
    record {
      run : HasRead g.S.Sink.takes g.S.Sink.settled l.fn.input.calls l.input.calls l.fn.sink l.fn.output.calls l.reader l.sink l.output.calls;
      lines : l.reader.lines ≤ length l.fn.intake.buffer.items * l.reads;
      room : g.S.Sink.may_take l.sink (length l.fn.intake.buffer.items * (2 ^ 32 - l.reads));
      size : length l.bytes ≡ length l.fn.intake.buffer.items;
      counted : length l.input.calls ≡ l.reads + length l.fn.input.calls;
    }

abbrev pub decreases-loop-reads : goal.decreases-loop-reads
decreases-loop-reads g l = 2 ^ 32 - l.reads
