pub mod Cut
pub mod Answer
pub mod First
pub mod Pieces
pub mod Promise
pub mod Examples
