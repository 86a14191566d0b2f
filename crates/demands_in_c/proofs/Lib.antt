pub mod Calling
pub mod Existing
pub mod Cited
pub mod Applied
