use Rattle.std.proofs.Common.{◌≡◌, ◌≤◌, ◌+◌, ◌-◌, List, length, false, IsTrue}
use Rattle.hg_model.specs.declared.event.Named.{Named}
use Rattle.hg_disk.specs.Calls.{CallsAtMost}
use Rattle.hg_disk.specs.State.{IsImage}
use Rattle.hg_disk.specs.Moments.{LeavesOnly}
use Rattle.hg_gate.specs.Batches.{base_front}
use Rattle.hg_gate.specs.declared.based.TheConstants.{MAX_BASE}
use Rattle.hg_journal.specs.Reading.{IsAtBehind, disk_of, is_broken}
use Rattle.hg_journals.specs.Attaching.{OpensSome}
use Rattle.hg_journals.proofs.count.find_last.Given as goal

abbrev pub invariant-loop-left : goal.invariant-loop-left
invariant-loop-left g l = record {
  works : is_broken l.journal ≡ false;
  state : g.D.Disk.state (disk_of l.journal) ≡ g.D.Disk.state (disk_of l.fn.journal);
  moments : LeavesOnly g.D.Disk (disk_of l.fn.journal) (disk_of l.journal) (IsImage (g.D.Disk.state (disk_of l.fn.journal)));
  failures : g.D.Disk.failures (disk_of l.journal) ≡ g.D.Disk.failures (disk_of l.fn.journal);
  few : l.left ≤ (MAX_BASE + 1) - l.fn.base;
  calls : CallsAtMost g.D.Disk (((MAX_BASE + 1) - l.fn.base) - l.left) (disk_of l.fn.journal) (disk_of l.journal);
  read : IsTrue (g.D.Disk.reads_were_true (disk_of l.journal)) → OpensSome l.fn.journal l.fn.base → (seen : List Named) × (length seen + l.left ≡ (MAX_BASE + 1) - l.fn.base) × IsAtBehind (base_front l.fn.base) l.journal l.reader seen;
}

abbrev pub decreases-loop-left : goal.decreases-loop-left
decreases-loop-left g l = l.left
