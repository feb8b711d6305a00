use Rattle.std.proofs.Common.{◌-◌, ◌≤◌}
use Rattle.hg_journal.specs.Reading.{Passes, StaysBehind, rest_of}
use Rattle.hg_journal.proofs.journal.JournalReader.pass.Given as goal

abbrev pub invariant-loop-count : goal.invariant-loop-count
invariant-loop-count l = (l.count ≤ l.most) × Passes l.count (rest_of l.fn.self) (rest_of l.self) × StaysBehind l.fn.self l.self

abbrev pub decreases-loop-count : goal.decreases-loop-count
decreases-loop-count l = l.most - l.count
