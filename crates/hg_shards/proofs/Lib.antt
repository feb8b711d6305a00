pub mod Rules
pub mod Lives
pub mod Sets
pub mod Reports
pub mod Verdicts
pub mod Steps
pub mod Order
pub mod Rising
pub mod Merging
pub mod Parts
pub mod Taking
pub mod Counting
pub mod Tables
pub mod Asking
pub mod Agreement
pub mod Cuts
pub mod Leaving
pub mod Sharding
mod Logging
mod Noting
mod Going
mod Offering
mod Passing
mod Routing
mod Together
mod Filling
mod Growing
mod Batches
mod Following
mod Seeing
mod Reading
mod Carrying
mod Judging
mod Routed
mod Totals
mod Summaries
mod Rows
