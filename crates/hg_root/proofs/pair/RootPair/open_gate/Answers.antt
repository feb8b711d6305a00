use Rattle.std.proofs.Common.{◌∷◌, [], false, refl, sym, append-nil}
use Rattle.hg_gate.specs.Batches.{open_gate}
use Rattle.hg_gate.specs.Gated.{framed}
use Rattle.hg_root.proofs.Pairs.{opening}
use Rattle.hg_root.proofs.pair.RootPair.open_gate.Goals as goal

pub returns-in_err-open_gate-clause-any_moment : goal.returns-in_err-open_gate-clause-any_moment
returns-in_err-open_gate-clause-any_moment g c root next body prepared is below = opening g.D.Disk c.args.self.now (record c.args.self.now { older = c.open_gate.new.self }) root next body refl prepared is below c.open_gate.ensures.any_moment

pub returns-clause-any_moment : goal.returns-clause-any_moment
returns-clause-any_moment g c root next body prepared is below = opening g.D.Disk c.args.self.now (record c.args.self.now { older = c.open_gate.new.self; is_closed = false }) root next body refl prepared is below c.open_gate.ensures.any_moment

pub returns-clause-opened : goal.returns-clause-opened
returns-clause-opened g c root next body prepared is below = record {
  older_file = open_gate ∷ framed body;
  newer_file = prepared.newer_file;
  older_rests = c.in_ok-open_gate.ensures.opened prepared.gate (framed body) prepared.older_rests;
  newer_rests = prepared.newer_rests;
  older_has = (body, record { rest = []; spelling = λ i. open_gate ∷ sym (append-nil (framed body)) i }, is);
  newer_has = prepared.newer_has;
  opened = refl;
  below = below;
  newer_known = prepared.newer_known;
}
