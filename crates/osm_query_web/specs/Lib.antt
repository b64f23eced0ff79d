pub mod Spans
pub mod Pieces
pub mod ToldFaults
pub mod Answers
pub mod internal
