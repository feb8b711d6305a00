use Rattle.std.proofs.Common.{arith}
use Rattle.hg_gate.proofs.Gates.{cut_shut, gate_kept}
use Rattle.hg_gate.proofs.based.cut_to_gate.Goals as goal

pub returns-then-len-gt1-clause-any_moment : goal.returns-then-len-gt1-clause-any_moment
returns-then-len-gt1-clause-any_moment g c gate rest h closed =
    cut_shut g.D.Disk gate closed c.args.disk.now c.cut.new.self 1 c.cut.result (omega arith) (gate_kept (g.D.Disk.state c.args.disk.now) gate rest h) c.cut.ensures.ok c.cut.ensures.err c.cut.ensures.clock c.cut.ensures.kept
