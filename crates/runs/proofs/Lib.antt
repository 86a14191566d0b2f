pub mod Induction
pub mod Lists
pub mod Calling
