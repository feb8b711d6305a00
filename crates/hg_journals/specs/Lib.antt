pub mod Attaching
pub mod Collecting
pub mod Journals
pub mod Making
pub mod Pairs
pub mod Reading
