-- Lemmas for the crates above.
pub mod Adding
pub mod Filtered
pub mod Keeping
pub mod Kinds
pub mod Mapped
pub mod Parts
pub mod References
pub mod Results
pub mod Tests
