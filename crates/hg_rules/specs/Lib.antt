pub mod Tables
pub mod Judging
pub mod Messages
pub mod Counting
