pub mod Digits
pub mod PieceReads
pub mod Pieces
pub mod Written
