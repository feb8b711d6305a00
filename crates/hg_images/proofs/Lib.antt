pub mod Following
pub mod GivingUp
pub mod Contents
pub mod Closed
pub mod Joining
pub mod Stepping
pub mod Remaining
mod Losing
mod Rows
