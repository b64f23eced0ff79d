-- Words that only private clauses cite: nothing that a reader of the promises must believe.
pub mod LightListing
pub mod LightPutting
