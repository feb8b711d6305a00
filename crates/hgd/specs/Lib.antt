pub mod Listening
pub mod Misread
pub mod Serving
