-- Words that only private clauses cite: nothing that a reader of the promises must believe.
pub mod Names
pub mod Once
pub mod Puts
pub mod Rises
