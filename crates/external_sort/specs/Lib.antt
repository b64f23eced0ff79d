pub mod Records
pub mod Runs
pub mod Sorting
pub mod internal
