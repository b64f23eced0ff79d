-- Words that only private clauses cite: nothing that a reader of the promises must believe.
pub mod Reading
pub mod CallResults
