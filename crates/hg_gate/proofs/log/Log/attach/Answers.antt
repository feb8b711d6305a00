use Rattle.std.proofs.Common.{Err}
use Rattle.hg_gate.proofs.log.Log.attach.Goals as goal

pub returns-in-Err-find_log-clause-damaged : goal.returns-in-Err-find_log-clause-damaged
returns-in-Err-find_log-clause-damaged g c honest same = c.in-Err-find_log.ensures.damaged honest (λ i. Err (same i))
