pub mod Calls
pub mod Shown
pub mod Told
pub mod Written
pub mod Holding
pub mod Faults
pub mod Texts
pub mod Printed
