pub mod Opened
pub mod Reading
pub mod Written
