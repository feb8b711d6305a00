use Rattle.std.proofs.Common.{IsTrue}
use Rattle.hg_disk.proofs.Moments.{started, joined, at_end}
use Rattle.hg_disk.proofs.laws.moments_join.Goals as goal

pub returns : goal.returns
returns g c = record {
  started = λ d p now. started g.D.Disk d (λ image. IsTrue (p image)) now;
  joined = λ old mid new p one two. joined g.D.Disk old mid new (λ image. IsTrue (p image)) one two;
  at_end = λ old new p has. at_end g.D.Disk old new (λ image. IsTrue (p image)) has;
}
