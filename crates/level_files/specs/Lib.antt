pub mod Built
pub mod Levels
pub mod Stored
pub mod internal
