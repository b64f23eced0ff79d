pub mod Values
pub mod Meanings
pub mod ObjectTests
