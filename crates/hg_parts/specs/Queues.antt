-- What a queue holds: the lines of a batch, and lines behind them that stand one after another.
use Rattle.std.specs.Prelude.{ℕ, ◌+◌, List, ◌++◌}
use Rattle.hg_reading.specs.declared.queued.Queued.{Queued}
use Rattle.hg_reading.specs.Queueing.{Lines, lines_of, lines_queued, readings_behind}
use Rattle.hg_parts.specs.declared.line.EventLine.{EventLine}
use Rattle.hg_parts.specs.Batches.{readings_in}

-- the lines of a batch, the last of which has this number, and those behind them
abbrev pub lines_held : ℕ → List EventLine → List Queued → Lines
lines_held last lines rest = record { count = last + lines_queued rest; readings = readings_in lines ++ readings_behind last (lines_of rest) }
