pub mod Decimals
pub mod SignedTexts
pub mod Texts
pub mod Numbered
pub mod ReplyTexts
