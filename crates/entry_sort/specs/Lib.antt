pub mod Holding
pub mod Sorting
pub mod internal
