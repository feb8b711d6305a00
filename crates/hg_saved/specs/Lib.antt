pub mod Disks
pub mod Heads
pub mod Saved
pub mod Words
