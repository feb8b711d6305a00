use Rattle.std.proofs.Common.{subst}
use Rattle.hg_wire.proofs.LineLemmas.{Means, means, fault_is_told}
use Rattle.hg_wire.proofs.laws.faults_are_first.Goals as goal

pub returns : goal.returns
returns c = λ bytes fault. (λ told. subst (Means bytes) told (means bytes), fault_is_told bytes fault)
