use Rattle.hg_migration.proofs.Kept as kept
use Rattle.hg_migration.proofs.laws.events_stay.Goals as goal

pub returns : goal.returns
returns c = kept.events_stay
