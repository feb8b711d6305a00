use Rattle.std.proofs.Common.{IsTrue, ◌≡◌, ◌-◌, ◌*◌, ◌≤◌, List, length, false}
use Rattle.hg_model.specs.declared.event.Named.{Named}
use Rattle.hg_disk.specs.Calls.{CallsAtMost}
use Rattle.hg_disk.specs.State.{IsImage}
use Rattle.hg_disk.specs.Moments.{LeavesOnly}
use Rattle.hg_journal.specs.Reading.{KeepsEvents, disk_of, is_broken}
use Rattle.hg_journal.proofs.Collecting.{Collected}
use Rattle.hg_journal.proofs.collect.collect.Given as goal

abbrev pub invariant-loop-number : goal.invariant-loop-number
invariant-loop-number g l = record {
  works : is_broken l.journal ≡ false;
  state : g.D.Disk.state (disk_of l.journal) ≡ g.D.Disk.state (disk_of l.fn.journal);
  moments : LeavesOnly g.D.Disk (disk_of l.fn.journal) (disk_of l.journal) (IsImage (g.D.Disk.state (disk_of l.fn.journal)));
  calls : CallsAtMost g.D.Disk (2 * l.number) (disk_of l.fn.journal) (disk_of l.journal);
  failures : g.D.Disk.failures (disk_of l.journal) ≡ g.D.Disk.failures (disk_of l.fn.journal);
  keeps : (events : List Named) → KeepsEvents l.fn.journal events → KeepsEvents l.journal events;
  within : l.number ≤ l.fn.count;
  few : length l.found.items ≤ l.fn.max;
  read : (events : List Named) → IsTrue (g.D.Disk.reads_were_true (disk_of l.journal)) → KeepsEvents l.fn.journal events → Collected l.journal l.reader l.number l.fn.from l.found.items;
}

abbrev pub decreases-loop-number : goal.decreases-loop-number
decreases-loop-number g l = l.fn.count - l.number
