use Rattle.std.proofs.Common.{arith}
use Rattle.hg_gate.proofs.Basing.{gate_at, too_great}
use Rattle.hg_gate.proofs.Opening.{not_closed}
use Rattle.hg_gate.proofs.based.base_of.Goals as goal

pub returns-then-base-gt-MAX_BASE-clause-damaged : goal.returns-then-base-gt-MAX_BASE-clause-damaged
returns-then-base-gt-MAX_BASE-clause-damaged c file front told = (
  not_closed file (gate_at file c.args.front.now front c.if-front.false),
  λ base bodies is. too_great base c.number_of-base.result file c.args.front.now bodies front (omega (arith, c.if-base-gt-MAX_BASE.true)) (omega (arith, c.number_of-base.type_inv)) c.number_of-base.ensures is,
)
