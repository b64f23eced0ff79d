-- Lemmas for the crates above.
pub mod FoundPieces
