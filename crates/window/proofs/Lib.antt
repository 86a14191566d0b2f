pub mod Inside
pub mod Steps
pub mod Doing
pub mod Instance
pub mod Theorem
pub mod Tied
pub mod Functions
pub mod Examples
