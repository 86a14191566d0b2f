pub mod Tests
pub mod Order
pub mod Tables
