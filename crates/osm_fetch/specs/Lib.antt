pub mod Fetching
pub mod internal
