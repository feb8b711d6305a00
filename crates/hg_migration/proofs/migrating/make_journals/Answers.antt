use Rattle.std.proofs.Common.{inl, refl}
use Rattle.hg_migration.proofs.Whole.{is_unread, was_empty}
use Rattle.hg_migration.proofs.migrating.make_journals.Goals as goal

pub returns-in_err-buffer-clause-any_moment : goal.returns-in_err-buffer-clause-any_moment
returns-in_err-buffer-clause-any_moment g c = inl (refl, refl)

pub returns-clause-not_empty : goal.returns-clause-not_empty
returns-clause-not_empty g c told = was_empty c.copy_journal.result c.copy_journal.ensures.fault told

pub returns-clause-unread : goal.returns-clause-unread
returns-clause-unread g c = is_unread _ c.copy_journal.result c.copy_journal.ensures.fault
