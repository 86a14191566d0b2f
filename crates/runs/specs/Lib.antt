pub mod Runs
pub mod Lists
