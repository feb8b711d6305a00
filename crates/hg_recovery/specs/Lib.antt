pub mod Answers
pub mod Detectors
pub mod Filling
pub mod Replaying
pub mod Rooting
