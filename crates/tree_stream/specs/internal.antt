-- Words that only private clauses cite: nothing that a reader of the promises must believe.
pub mod Cutting
pub mod Finishing
pub mod Holding
pub mod Opening
pub mod Writing
