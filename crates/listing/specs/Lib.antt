pub mod Lines
pub mod Input
pub mod Output
pub mod Choices
pub mod Private
pub mod Examples
