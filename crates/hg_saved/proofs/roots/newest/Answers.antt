use Rattle.std.proofs.Common.{Err, ap}
use Rattle.hg_root.specs.declared.fault.RootFault.{RootFault}
use Rattle.hg_saved.proofs.roots.newest.Goals as goal

pub returns-in-Err-Damaged-clause-damaged : goal.returns-in-Err-Damaged-clause-damaged
returns-in-Err-Damaged-clause-damaged g c honest told = c.in-Err-Damaged.ensures.damaged honest (ap (λ (f : RootFault). Err f) c.in-Err-Damaged.field-0-is)
