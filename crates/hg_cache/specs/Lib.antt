pub mod Entries
pub mod Rings
pub mod Sound
pub mod Frames
