pub mod RecordLemmas
mod Lengths
