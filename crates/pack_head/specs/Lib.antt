pub mod Heads
pub mod Lines
pub mod Names
pub mod internal
