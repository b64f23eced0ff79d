-- Lemmas for the crates above.
pub mod SpelledLemmas
