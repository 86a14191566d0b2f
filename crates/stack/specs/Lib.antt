pub mod Entries
pub mod Calls
pub mod Private
