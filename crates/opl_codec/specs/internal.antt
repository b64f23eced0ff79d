-- Words that only private clauses cite: nothing that a reader of the promises must believe.
pub mod Loading
pub mod TextParts
pub mod FieldCuts
pub mod Stamps
pub mod ListParts
pub mod ItemPlaces
pub mod Buffering
pub mod PartSteps
pub mod LineReads
pub mod LineObjects
pub mod MemberPlaces
