pub mod Causes
pub mod Holds
pub mod Numbers
