use Rattle.std.proofs.Common.{IsTrue}
use Rattle.hg_disk.proofs.Moments.{left_at_end, may_leave, still}
use Rattle.hg_disk.proofs.laws.moments_of_images.Goals as goal

pub returns : goal.returns
returns g c = record {
  each = λ old new p bytes only may. may_leave g.D.Disk old new (λ image. IsTrue (p image)) bytes only may;
  still = λ d bytes may. still g.D.Disk d bytes may;
  at_end = λ old new bytes goes is. left_at_end g.D.Disk old new bytes goes is;
}
