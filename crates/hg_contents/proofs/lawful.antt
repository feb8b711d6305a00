mod Lists
mod Passing
mod Counting
mod Sending
mod Reporting
mod Ordering
mod Threading
mod Changing
mod Holding
mod Numbers
mod Standing
mod Handing
mod Opening
mod Living
mod Excluding
mod Fitting
mod Reaching
pub mod Sharing
mod Parting
pub mod Lawful
pub mod Sources
mod Fits
pub mod Heads
mod Spelling
pub mod Tables
pub mod Staying
mod Reading
pub mod Roots
