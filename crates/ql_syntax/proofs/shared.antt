-- Lemmas for the crates above.
pub mod StatementTrees
pub mod QueryLaws
pub mod FormatLemmas
