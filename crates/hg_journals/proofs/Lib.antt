pub mod Collecting
pub mod Finding
pub mod Keeping
pub mod Imaging
pub mod Stepping
pub mod Walking
