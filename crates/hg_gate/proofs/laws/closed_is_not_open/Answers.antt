use Rattle.std.proofs.Common.{get_or, ap, List, ℕ}
use Rattle.hg_gate.proofs.Opening.{not_closed}
use Rattle.hg_gate.proofs.laws.closed_is_not_open.Goals as goal

pub returns : goal.returns
returns c = λ body bytes closed opened. not_closed bytes (ap (λ (l : List ℕ). get_or l 0 0) opened.spelling) closed
