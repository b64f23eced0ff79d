-- Words that only private clauses cite: nothing that a reader of the promises must believe.
pub mod Finding
pub mod Judging
pub mod Kept
pub mod Relaying
pub mod Stages
pub mod Texts
