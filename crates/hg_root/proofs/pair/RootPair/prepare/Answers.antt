use Rattle.std.proofs.Common.{true, drop, refl, arith}
use Rattle.hg_gate.specs.Batches.{closed_gate}
use Rattle.hg_root.proofs.Pairs.{closing, no_call}
use Rattle.hg_root.proofs.pair.RootPair.prepare.Goals as goal

pub returns-then-self-clause-any_moment : goal.returns-then-self-clause-any_moment
returns-then-self-clause-any_moment g c root former stands = no_call g.D.Disk c.args.self.now root former stands

pub returns-in_err-close-clause-any_moment : goal.returns-in_err-close-clause-any_moment
returns-in_err-close-clause-any_moment g c root former stands = closing g.D.Disk c.args.self.now (record c.args.self.now { older = c.close.new.self }) root former refl c.if-self.false stands c.close.ensures.any_moment

pub returns-clause-any_moment : goal.returns-clause-any_moment
returns-clause-any_moment g c root former stands = closing g.D.Disk c.args.self.now (record c.args.self.now { older = c.close.new.self; is_closed = true }) root former refl c.if-self.false stands c.close.ensures.any_moment

pub returns-clause-prepared : goal.returns-clause-prepared
returns-clause-prepared g c root former stands = (
  drop 1 stands.older_file,
  record {
    gate = closed_gate;
    newer_file = stands.newer_file;
    shut = omega arith;
    older_rests = c.in_ok-close.ensures.closed stands.older_file stands.older_rests;
    newer_rests = stands.newer_rests;
    newer_has = stands.newer_has;
    known = refl;
    newer_known = stands.newer_known;
  },
)
