pub mod Witness
pub mod Private
pub mod Limiter
pub mod Lookup
