pub mod Values
pub mod Whole
pub mod Examples
