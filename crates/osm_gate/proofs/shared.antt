-- Lemmas for the crates above.
pub mod CutLemmas
pub mod GivenUp
pub mod Pieces
pub mod Roots
