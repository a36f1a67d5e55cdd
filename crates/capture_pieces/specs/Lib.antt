pub mod Line
pub mod Piece
