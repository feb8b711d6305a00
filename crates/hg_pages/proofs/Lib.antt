pub mod Encoding
pub mod Decoding
mod Numbers
mod Putting
mod Reading
pub mod Runs
pub mod Rising
pub mod Parting
pub mod Keeping
pub mod OneReading
pub mod Gaps
pub mod Searching
pub mod Places
