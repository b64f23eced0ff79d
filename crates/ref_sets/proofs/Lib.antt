pub mod KindParts
pub mod NamedLists
pub mod Seeking
pub mod shared
