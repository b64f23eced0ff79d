pub mod WrittenSets
