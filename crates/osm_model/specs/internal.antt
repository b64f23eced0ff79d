-- Words that only private clauses cite: nothing that a reader of the promises must believe.
pub mod EdgeUnits
pub mod LineLength
pub mod Comparisons
