pub mod Suffixes
pub mod Words
pub mod Calls
pub mod Left
