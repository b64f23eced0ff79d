pub mod Sets
pub mod Kinds
pub mod NamedSets
pub mod Adding
pub mod internal
