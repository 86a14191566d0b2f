pub mod Marks
pub mod Calls
pub mod Private
