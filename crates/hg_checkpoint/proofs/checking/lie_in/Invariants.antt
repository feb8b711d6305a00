use Rattle.std.proofs.Common.{◌≤◌, ◌+◌, ◌*◌, All, length, take}
use Rattle.hg_pages.specs.Files.{disk_of}
use Rattle.hg_checkpoint.proofs.checking.lie_in.Given as goal

abbrev pub invariant-loop-page : goal.invariant-loop-page
invariant-loop-page g l = All (λ p. 3080 * p.slot + 3080 ≤ length (g.D.Disk.state (disk_of l.file)).contents) (take l.page-index l.pages)
