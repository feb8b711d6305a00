pub mod Taking
pub mod Queueing
pub mod Endings
pub mod Whole
