use Rattle.std.proofs.Common.{◌≡◌, ◌≤◌, ◌-◌, length, take, All, IsTrue}
use Rattle.hg_pages.specs.Files.{WasRead, disk_of, known}
use Rattle.hg_checkpoint.specs.NamedPages.{HasSomePage}
use Rattle.hg_checkpoint.specs.Runs.{LieSideBySide}
use Rattle.hg_checkpoint.proofs.Runs.{ByRuns}
use Rattle.hg_checkpoint.proofs.checking.check_slots.Given as goal

abbrev pub invariant-loop-at : goal.invariant-loop-at
invariant-loop-at g l = record {
  within : l.at ≤ length l.root.pages.items;
  stands : IsTrue (g.D.Disk.reads_were_true (disk_of l.file)) → All (HasSomePage (length l.root.segments.items) l.root.sets.sets (known g.D.Disk l.fn.file)) (take l.at l.root.pages.items);
  read : WasRead g.D.Disk l.at l.fn.file l.file;
  runs : LieSideBySide l.root.pages.items → ByRuns g.D.Disk l.fn.file l.file l.root.pages.items l.at;
  failures : g.D.Disk.failures (disk_of l.file) ≡ g.D.Disk.failures (disk_of l.fn.file);
}

abbrev pub decreases-loop-at : goal.decreases-loop-at
decreases-loop-at g l = length l.root.pages.items - l.at
