-- Lemmas for the crates above.
pub mod ChangedTrees
pub mod OldTrees
pub mod PieceCuts
