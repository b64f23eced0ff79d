pub mod BuilderLemmas
pub mod FaultLemmas
pub mod KeptLemmas
pub mod ReadingLemmas
pub mod RowLemmas
pub mod TreeLemmas
