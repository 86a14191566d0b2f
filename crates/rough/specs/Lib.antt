pub mod Looks
pub mod Promises
pub mod Examples
pub mod Private
