pub mod Steps
pub mod Commas
pub mod PlainTexts
