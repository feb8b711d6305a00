use Rattle.std.proofs.Common.{length, ap, arith}
use Rattle.hg_disk.proofs.Moments.{cut_leaves}
use Rattle.hg_disk.specs.State.{DiskState}
use Rattle.hg_migration.proofs.Emptied.{uncalled}
use Rattle.hg_migration.proofs.emptying.cut_all.Goals as goal

pub returns-then-len-gt0-clause-any_moment : goal.returns-then-len-gt0-clause-any_moment
returns-then-len-gt0-clause-any_moment g c = record {
  cut = cut_leaves g.D.Disk c.args.disk.now c.cut.new.self 0 c.cut.result c.cut.ensures.ok c.cut.ensures.err c.cut.ensures.clock c.cut.ensures.kept;
  none = λ is. absurd (omega (arith, c.if-len-gt0.true, c.len.ensures.value, ap (λ (s : DiskState). length s.contents) is));
}

pub returns-clause-any_moment : goal.returns-clause-any_moment
returns-clause-any_moment g c = uncalled g.D.Disk c.args.disk.now
