pub mod Lines
pub mod Streams
pub mod Output
pub mod Examples
pub mod Private
