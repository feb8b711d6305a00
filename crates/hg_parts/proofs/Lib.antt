pub mod Numbers
mod Queues
pub mod Going
mod Offering
mod Taking
mod Sinking
mod Ending
