pub mod Faults
pub mod Roots
