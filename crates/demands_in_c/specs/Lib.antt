pub mod Witness
pub mod Private
