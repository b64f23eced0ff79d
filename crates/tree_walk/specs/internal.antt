-- Words that only private clauses cite: nothing that a reader of the promises must believe.
pub mod Accounts
pub mod Gatherings
pub mod Openings
pub mod Pendings
pub mod Reaching
