use Rattle.hg_migration.proofs.Kept as kept
use Rattle.hg_migration.proofs.laws.contents_stay.Goals as goal

pub returns-clause-same : goal.returns-clause-same
returns-clause-same c = kept.contents_stay

pub returns-clause-kept : goal.returns-clause-kept
returns-clause-kept c = kept.content_is_kept
