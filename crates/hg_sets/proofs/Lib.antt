pub mod Rising
pub mod Slots
pub mod Listed
pub mod Remembering
pub mod Restored
pub mod Reserved
pub mod Threads
