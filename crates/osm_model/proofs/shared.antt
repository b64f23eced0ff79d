-- Lemmas for the crates above.
pub mod Digits
pub mod Each
pub mod EncodedCharacters
pub mod ObjectParts
pub mod OneDecimal
pub mod OneDegrees
pub mod OneNumeral
pub mod ReadBack
pub mod References
pub mod RisingKeys
pub mod UniqueTags
