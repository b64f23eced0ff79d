pub mod Faults
pub mod Levels
pub mod Packing
pub mod internal
