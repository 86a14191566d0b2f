pub mod Replies
pub mod Sessions
pub mod Demands
pub mod Windows
pub mod Takes
pub mod Readings
