pub mod Suffixes
pub mod Arriving
