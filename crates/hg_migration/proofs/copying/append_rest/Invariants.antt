use Rattle.std.proofs.Common.{◌≡◌, ◌≤◌, ◌<◌, ◌+◌, ◌-◌, ◌/◌, length}
use Rattle.hg_disk.specs.Calls.{CallsAtMost}
use Rattle.hg_disk.specs.State.{IsImage}
use Rattle.hg_disk.specs.Moments.{LeavesOnly}
use Rattle.hg_migration.specs.Copying.{Appends, KeepsGate, StaysClosed, pieces_in}
use Rattle.hg_migration.proofs.copying.append_rest.Given as goal

abbrev pub invariant-loop-next : goal.invariant-loop-next
invariant-loop-next g l = record {
  behind : l.at ≤ l.next;
  within : l.next ≤ length (g.D.Disk.state l.fn.from).contents;
  buffer : length l.buffer ≡ 65536;
  state : g.D.Disk.state l.from ≡ g.D.Disk.state l.fn.from;
  any_moment : LeavesOnly g.D.Disk l.fn.from l.from (IsImage (g.D.Disk.state l.fn.from));
  appended : Appends g.D.Disk (g.D.Disk.state l.fn.from).contents l.at (l.next - l.at) (g.D.Disk.state l.fn.to).contents (g.D.Disk.state l.to).contents;
  gate : KeepsGate g.D.Disk l.fn.to l.to;
  closed : StaysClosed g.D.Disk l.fn.to l.to;
  read : CallsAtMost g.D.Disk (pieces_in (l.next - l.at)) l.fn.from l.from;
  written : CallsAtMost g.D.Disk (pieces_in (l.next - l.at)) l.fn.to l.to;
  full_reads : l.next < length (g.D.Disk.state l.fn.from).contents → CallsAtMost g.D.Disk ((l.next - l.at) / 65536) l.fn.from l.from;
  full_writes : l.next < length (g.D.Disk.state l.fn.from).contents → CallsAtMost g.D.Disk ((l.next - l.at) / 65536) l.fn.to l.to;
  failures : g.D.Disk.failures l.from + g.D.Disk.failures l.to ≡ g.D.Disk.failures l.fn.from + g.D.Disk.failures l.fn.to;
}

abbrev pub decreases-loop-next : goal.decreases-loop-next
decreases-loop-next g l = length (g.D.Disk.state l.fn.from).contents - l.next
