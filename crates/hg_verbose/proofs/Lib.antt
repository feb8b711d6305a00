pub mod Holding
mod Telling
