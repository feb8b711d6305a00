pub mod Built
pub mod Copied
pub mod Emptied
pub mod Kept
pub mod Whole
