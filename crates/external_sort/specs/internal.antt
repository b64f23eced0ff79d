-- Words that only private clauses cite: nothing that a reader of the promises must believe.
pub mod Merging
pub mod Places
pub mod Reading
pub mod Spelling
pub mod Tagged
pub mod Turns
pub mod Unread
