use Rattle.std.proofs.Common.{length, ap, arith}
use Rattle.hg_disk.proofs.Moments.{read_leaves}
use Rattle.hg_migration.proofs.migrating.read_header.Goals as goal

pub returns-in_err-read_at-clause-reads : goal.returns-in_err-read_at-clause-reads
returns-in_err-read_at-clause-reads g c = record {
  state = c.read_at.ensures.state;
  any_moment = read_leaves g.D.Disk c.args.journal.now c.read_at.new.self c.read_at.ensures.state c.read_at.ensures.clock c.read_at.ensures.kept;
  calls = omega (arith, ap length c.read_at.ensures.clock);
}

pub returns-then-ne-clause-reads : goal.returns-then-ne-clause-reads
returns-then-ne-clause-reads g c = record {
  state = c.read_at.ensures.state;
  any_moment = read_leaves g.D.Disk c.args.journal.now c.read_at.new.self c.read_at.ensures.state c.read_at.ensures.clock c.read_at.ensures.kept;
  calls = omega (arith, ap length c.read_at.ensures.clock);
}

pub returns-clause-reads : goal.returns-clause-reads
returns-clause-reads g c = record {
  state = c.read_at.ensures.state;
  any_moment = read_leaves g.D.Disk c.args.journal.now c.read_at.new.self c.read_at.ensures.state c.read_at.ensures.clock c.read_at.ensures.kept;
  calls = omega (arith, ap length c.read_at.ensures.clock);
}
