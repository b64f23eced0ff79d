-- Lemmas that crates above cite.
pub mod HonestLemmas
