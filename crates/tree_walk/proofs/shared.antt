-- Lemmas for the crates above.
pub mod FoundLemmas
pub mod GivenLaws
pub mod KeyLemmas
pub mod WalkedLaws
pub mod WalksGivenLaws
pub mod WantedLaws
