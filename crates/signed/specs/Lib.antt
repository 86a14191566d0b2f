pub mod Word
pub mod TwosComplement
