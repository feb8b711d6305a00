pub mod Passing
pub mod Runs
pub mod Through
pub mod Queueing
pub mod Parsing
pub mod Pushing
pub mod Endings
pub mod Inputs
mod Keeping
mod Texts
