-- Words that only private clauses cite: nothing that a reader of the promises must believe.
pub mod BagLaws
pub mod OrderLemmas
pub mod Pairs
pub mod Reading
pub mod RecorderLaws
pub mod Writing
