pub mod Building
pub mod Copying
pub mod Emptying
pub mod Fault
pub mod Laws
pub mod Migrating
