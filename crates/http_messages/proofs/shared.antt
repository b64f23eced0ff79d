-- Lemmas for the crates above.
pub mod BreakLemmas
pub mod FieldLemmas
pub mod HeadEndLemmas
pub mod RequestLemmas
