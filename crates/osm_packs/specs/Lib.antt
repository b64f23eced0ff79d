pub mod Packing
pub mod Querying
pub mod internal
