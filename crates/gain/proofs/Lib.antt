pub mod Rule
pub mod Cases
pub mod Point
pub mod Examples
