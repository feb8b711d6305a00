pub mod Telling
pub mod Filling
pub mod Replaying
pub mod Detectors
pub mod Rooting
