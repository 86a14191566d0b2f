pub mod Writing
pub mod Pages
pub mod Parts
pub mod Stops
pub mod Numbered
pub mod Examples
