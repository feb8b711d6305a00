pub mod Shown
pub mod Images
pub mod Store
pub mod Kept
pub mod Answers
pub mod Steps
pub mod Offers
pub mod Paging
pub mod Doing
pub mod Runs
pub mod Recovering
pub mod Limits
pub mod Refusals
pub use Rattle.hg_checkpoint.specs.Phases
pub use Rattle.hg_journal.specs.Journal
pub use Rattle.hg_journals.specs.Journals
pub use Rattle.hg_recovery.specs.Answers as RecoveryAnswers
