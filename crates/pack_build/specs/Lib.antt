pub mod Building
pub mod Faults
pub mod Taken
pub mod Trees
pub mod internal
