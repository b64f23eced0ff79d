pub mod Adding
pub mod Faults
pub mod Files
pub mod internal
