pub mod Images
pub mod Choices
pub mod Stores
pub mod Steps
pub mod Runs
pub mod Laws
