pub mod File
pub mod Journal
pub mod Reading
