pub mod Collecting
pub mod Filing
pub mod Filling
pub mod Journaling
pub mod Journals
