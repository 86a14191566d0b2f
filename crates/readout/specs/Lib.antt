pub mod Lines
pub mod Input
pub mod Output
pub mod Private
pub mod Examples
