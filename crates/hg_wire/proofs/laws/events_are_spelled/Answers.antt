use Rattle.std.proofs.Common.{subst}
use Rattle.hg_wire.proofs.LineLemmas.{Means, means, event_reads}
use Rattle.hg_wire.proofs.laws.events_are_spelled.Goals as goal

pub returns : goal.returns
returns c = λ bytes event. (λ read. subst (Means bytes) read (means bytes), event_reads bytes event)
