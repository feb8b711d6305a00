pub mod Following
pub mod Contents
pub mod Closed
pub mod Joining
pub mod Remaining
pub mod Maps
pub mod lawful
