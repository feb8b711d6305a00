pub mod First
pub mod Slots
pub mod Uses
pub mod Steps
pub mod Restoring
