use Rattle.std.proofs.Common.{◌≡◌, All, IsTrue, take}
use Rattle.hg_pages.specs.Files.{WasRead, disk_of, known}
use Rattle.hg_checkpoint.specs.NamedPages.{HasSomePage}
use Rattle.hg_saved.specs.Words.{StaysWithin}
use Rattle.hg_saved.proofs.Taking.{TakesFront}
use Rattle.hg_saved.proofs.pages.take_pages.Given as goal

abbrev pub invariant-loop-page : goal.invariant-loop-page
invariant-loop-page g l = record {
  taken : IsTrue (g.D.Disk.reads_were_true (disk_of l.file)) → TakesFront l.segments l.sets.sets (known g.D.Disk l.fn.file) l.pages l.page-index l.fn.words l.words;
  within : StaysWithin l.segments l.sets.sets l.fn.words l.words;
  stands : IsTrue (g.D.Disk.reads_were_true (disk_of l.file)) → All (HasSomePage l.segments l.sets.sets (known g.D.Disk l.fn.file)) (take l.page-index l.pages);
  read : WasRead g.D.Disk l.page-index l.fn.file l.file;
  failures : g.D.Disk.failures (disk_of l.file) ≡ g.D.Disk.failures (disk_of l.fn.file);
}
