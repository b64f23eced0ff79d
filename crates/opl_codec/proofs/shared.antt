-- Lemmas for the crates above.
pub mod AppendSteps
pub mod CanonicalFields
pub mod CanonicalLines
pub mod CanonicalLists
pub mod CanonicalValues
pub mod OneChange
pub mod OneEscapedText
pub mod OneLine
pub mod OneNumberText
pub mod OnePut
pub mod ReadIds
pub mod ReadLiterals
pub mod TextFields
pub mod TextLaws
pub mod ValueLaws
