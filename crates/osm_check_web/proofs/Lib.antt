pub mod StatusLemmas
pub mod DocumentLemmas
pub mod Puts
