use Rattle.hg_journals.proofs.Keeping as keeping
use Rattle.hg_journals.proofs.laws.one_keeping.Goals as goal

pub returns-clause-once : goal.returns-clause-once
returns-clause-once c = keeping.once

pub returns-clause-either_way : goal.returns-clause-either_way
returns-clause-either_way c = keeping.swapped
