use Rattle.std.proofs.Common.{Err}
use Rattle.hg_gate.proofs.log.Log.attach_file.Goals as goal

pub returns-in-Err-find_file-clause-damaged : goal.returns-in-Err-find_file-clause-damaged
returns-in-Err-find_file-clause-damaged g c honest same = c.in-Err-find_file.ensures.damaged honest (λ i. Err (same i))
