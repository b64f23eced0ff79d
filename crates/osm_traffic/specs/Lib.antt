pub mod Deeds
pub mod Entries
pub mod Handed
pub mod internal
