use Rattle.std.proofs.Common.{refl}
use Rattle.hg_root.proofs.Pairs.{writing}
use Rattle.hg_root.proofs.pair.RootPair.write.Goals as goal

pub returns-in_err-write_body-clause-any_moment : goal.returns-in_err-write_body-clause-any_moment
returns-in_err-write_body-clause-any_moment g c root rest prepared = writing g.D.Disk c.args.self.now (record c.args.self.now { older = c.write_body.new.self }) root rest refl prepared c.write_body.ensures.any_moment

pub returns-clause-any_moment : goal.returns-clause-any_moment
returns-clause-any_moment g c root rest prepared = writing g.D.Disk c.args.self.now (record c.args.self.now { older = c.write_body.new.self }) root rest refl prepared c.write_body.ensures.any_moment

pub returns-clause-written : goal.returns-clause-written
returns-clause-written g c root rest prepared = record {
  gate = prepared.gate;
  newer_file = prepared.newer_file;
  shut = prepared.shut;
  older_rests = c.in_ok-write_body.ensures.written prepared.gate rest prepared.older_rests;
  newer_rests = prepared.newer_rests;
  newer_has = prepared.newer_has;
  known = prepared.known;
  newer_known = prepared.newer_known;
}
