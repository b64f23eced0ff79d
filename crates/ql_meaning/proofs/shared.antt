-- Lemmas for the crates above.
pub mod Laws
pub mod MeaningLaws
pub mod Running
pub mod Answering
pub mod Chains
