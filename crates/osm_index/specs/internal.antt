-- Words that only private clauses cite: nothing that a reader of the promises must believe.
pub mod Listing
pub mod Putting
pub mod Prefixes
pub mod PrefixedEntries
pub mod KeyOrder
pub mod EntryChanges
pub mod NodeChanges
pub mod HeldTrees
pub mod Applying
pub mod ChangedTrees
pub mod Updates
