-- Words that only private clauses cite: nothing that a reader of the promises must believe.
pub mod Founds
pub mod Keeping
pub mod Linked
pub mod Paths
pub mod Steps
