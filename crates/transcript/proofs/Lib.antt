pub mod Rooms
pub mod Streams
pub mod Whole
pub mod Examples
