pub mod Written
pub mod Puts
pub mod Order
