pub mod Counts
pub mod Following
