pub mod Acknowledged
pub mod Acknowledging
pub mod Crossing
pub mod Flushing
pub mod Leaving
pub mod Talking
