pub mod shared
pub mod Ids
pub mod ReadLemmas
pub mod CellLemmas
