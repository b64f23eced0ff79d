pub mod EntryLists
pub mod Holdings
pub mod Applying
pub mod Snapshots
pub mod internal
