pub mod Texts
pub mod Readings
pub mod Requests
pub mod Whole
pub mod Determined
pub mod Examples
