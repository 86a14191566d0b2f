pub mod Found
pub mod Takes
pub mod Calls
pub mod Promises
pub mod Examples
pub mod Private
