pub mod Recording
pub mod Serving
pub mod Settling
pub mod Flushing
pub mod Replying
pub mod Talking
pub mod Acknowledged
