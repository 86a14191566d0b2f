pub mod Answers
pub mod Demand
pub mod Promises
pub mod Consequences
pub mod Keeping
pub mod Calls
pub mod Private
