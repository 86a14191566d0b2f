pub mod Numbers
pub mod Theorem
pub mod Tied
pub mod Functions
