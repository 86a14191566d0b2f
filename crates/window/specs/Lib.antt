pub mod Answers
pub mod Windows
pub mod Promises
pub mod Claim
pub mod Keeping
pub mod Calls
pub mod Examples
