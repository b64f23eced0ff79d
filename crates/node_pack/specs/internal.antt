-- Words that only private clauses cite: nothing that a reader of the promises must believe.
pub mod Announcing
pub mod Faults
pub mod Gathering
pub mod Laying
pub mod Reading
pub mod Stepping
