use Rattle.hg_gate.proofs.Basing.{based_is_open}
use Rattle.hg_gate.proofs.Opening.{not_closed}
use Rattle.hg_gate.proofs.laws.spare_has_no_base.Goals as goal

pub returns : goal.returns
returns c = λ bytes closed base bodies is. not_closed bytes (based_is_open base bytes bodies is.1) closed
