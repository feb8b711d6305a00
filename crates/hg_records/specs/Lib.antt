pub mod Records
pub mod RecordReading
pub mod Lengths
pub mod Laws
