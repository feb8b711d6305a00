use Rattle.std.proofs.Common.{◌≡◌, ◌-◌, length, drop, IsTrue}
use Rattle.hg_disk.specs.Calls.{CallsAtMost}
use Rattle.hg_disk.specs.State.{IsImage}
use Rattle.hg_disk.specs.Moments.{LeavesOnly}
use Rattle.hg_gate.specs.Scan.{Walked}
use Rattle.hg_gate.specs.Turning.{EndsWithin, HasAhead}
use Rattle.hg_gate.proofs.scan.find_end.Given as goal

abbrev pub invariant-loop-reader : goal.invariant-loop-reader
invariant-loop-reader g l = record {
  within : EndsWithin (length (g.D.Disk.state l.fn.disk).contents - l.begins) l.reader;
  calls : CallsAtMost g.D.Disk l.reader.next l.fn.disk l.disk;
  counted : IsTrue (g.D.Disk.reads_were_true l.disk) → (w : Walked (drop l.begins (g.D.Disk.state l.fn.disk).contents) l.reader.next) × CallsAtMost g.D.Disk (length w.bodies) l.fn.disk l.disk;
  ahead : IsTrue (g.D.Disk.reads_were_true l.disk) → HasAhead (drop l.begins (g.D.Disk.state l.fn.disk).contents) l.reader;
  state : g.D.Disk.state l.disk ≡ g.D.Disk.state l.fn.disk;
  failures : g.D.Disk.failures l.disk ≡ g.D.Disk.failures l.fn.disk;
  any_moment : LeavesOnly g.D.Disk l.fn.disk l.disk (IsImage (g.D.Disk.state l.fn.disk));
}

abbrev pub decreases-loop-reader : goal.decreases-loop-reader
decreases-loop-reader g l = length (g.D.Disk.state l.disk).contents - l.reader.next
