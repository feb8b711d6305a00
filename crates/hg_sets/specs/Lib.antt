pub mod Interning
pub mod Listing
pub mod Faults
pub mod Soundness
pub mod Remembered
pub mod Consistency
