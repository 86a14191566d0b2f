pub mod Gains
pub mod Promises
pub mod Examples
