pub mod Lengths
pub mod Readings
pub mod Examples
