pub mod Given
pub mod Listed
