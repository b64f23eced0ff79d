-- Words that only private clauses cite: nothing that a reader of the promises must believe.
pub mod Adding
pub mod ChunkLists
pub mod Heads
pub mod Kept
pub mod Steps
