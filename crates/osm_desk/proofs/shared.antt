-- Lemmas that crates above cite.
pub mod FoundLemmas
pub mod RootDigits
pub mod StillHeld
