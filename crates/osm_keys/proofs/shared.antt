-- Lemmas for the crates above.
pub mod Members
pub mod OneObject
pub mod KeyLengths
pub mod RangeLaws
pub mod OneManifest
pub mod EntriesFit
pub mod OnePublication
pub mod EntryBytes
pub mod CellLaws
pub mod KeyOrder
pub mod OneKey
