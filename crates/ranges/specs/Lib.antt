pub mod Holding
pub mod Calls
pub mod Private
